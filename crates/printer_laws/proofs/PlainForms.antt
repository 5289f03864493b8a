-- Each form of expression and of statement without its offsets: forms of the same parts are the same.
use Rattle.std.proofs.Common.{◌≡◌, ℕ, Bool, List, map, Option, Some, None, sym, ap, ap₂, ◌∙◌}
use Rattle.qz_values.specs.declared.Op1.{Op1}
use Rattle.qz_values.specs.declared.Op2.{Op2}
use Rattle.qz_syntax.specs.declared.statements.Kind.{Kind}
use Rattle.qz_syntax.specs.declared.file_expressions.NameAt.{NameAt}
use Rattle.qz_syntax.specs.declared.file_expressions.FileExpr.{FileExpr}
use Rattle.qz_syntax.specs.declared.file_expressions.FileExpr.TheVariants as expr
use Rattle.qz_syntax.specs.declared.file_expressions.FileExpr.TheOpen.{FileExpr-F}
use Rattle.qz_syntax.specs.declared.file_expressions.FileExpr.TheFolds.{fold-roll-FileExpr}
use Rattle.qz_syntax.specs.declared.file_statements.Cond.{Cond}
use Rattle.qz_syntax.specs.declared.file_statements.Target.{Target}
use Rattle.qz_syntax.specs.declared.file_statements.FileBlock.{FileBlock}
use Rattle.qz_syntax.specs.declared.file_statements.FileStmt.{FileStmt}
use Rattle.qz_syntax.specs.declared.file_statements.FileStmt.TheVariants as stmt
use Rattle.qz_syntax.specs.declared.file_statements.FileStmt.TheOpen.{FileStmt-F}
use Rattle.qz_syntax.specs.declared.file_statements.FileStmt.TheFolds.{fold-roll-FileStmt, fold_out-FileBlock}
use Rattle.printer_laws.specs.Offsets.{plain_name, plain_expr, expr_node, plain_cond, plain_target, plain_label, plain_decl, stmt_node, block_node, plain_stmt, plain_block}

abbrev pub SameExpr : FileExpr → FileExpr → Type 0
SameExpr e f = plain_expr e ≡ plain_expr f

abbrev pub SameCond : Cond → Cond → Type 0
SameCond c d = plain_cond c ≡ plain_cond d

abbrev pub SameTarget : Target → Target → Type 0
SameTarget t u = plain_target t ≡ plain_target u

abbrev pub SameLabel : Option NameAt → Option NameAt → Type 0
SameLabel l k = plain_label l ≡ plain_label k

abbrev pub SameStmt : FileStmt → FileStmt → Type 0
SameStmt s t = plain_stmt s ≡ plain_stmt t

abbrev pub SameBlock : FileBlock → FileBlock → Type 0
SameBlock b c = plain_block b ≡ plain_block c

plain-Bool : (value : Bool) (at : ℕ) → plain_expr (expr.Bool value at) ≡ expr.Bool value 0
plain-Bool value at = ap plain_expr (sym (expr.rolls-Bool value at)) ∙ fold-roll-FileExpr FileExpr expr_node (FileExpr-F.Bool value at)

plain-Lit : (width value at : ℕ) → plain_expr (expr.Lit width value at) ≡ expr.Lit width value 0
plain-Lit width value at = ap plain_expr (sym (expr.rolls-Lit width value at)) ∙ fold-roll-FileExpr FileExpr expr_node (FileExpr-F.Lit width value at)

plain-Name : (n : NameAt) → plain_expr (expr.Name n) ≡ expr.Name (plain_name n)
plain-Name n = ap plain_expr (sym (expr.rolls-Name n)) ∙ fold-roll-FileExpr FileExpr expr_node (FileExpr-F.Name n)

plain-Paren : (at : ℕ) (inner : FileExpr) → plain_expr (expr.Paren at inner) ≡ expr.Paren 0 (plain_expr inner)
plain-Paren at inner = ap plain_expr (sym (expr.rolls-Paren at inner)) ∙ fold-roll-FileExpr FileExpr expr_node (FileExpr-F.Paren at inner)

plain-Un : (op : Op1) (at : ℕ) (arg : FileExpr) → plain_expr (expr.Un op at arg) ≡ expr.Un op 0 (plain_expr arg)
plain-Un op at arg = ap plain_expr (sym (expr.rolls-Un op at arg)) ∙ fold-roll-FileExpr FileExpr expr_node (FileExpr-F.Un op at arg)

plain-Bin : (op : Op2) (at : ℕ) (left right : FileExpr) → plain_expr (expr.Bin op at left right) ≡ expr.Bin op 0 (plain_expr left) (plain_expr right)
plain-Bin op at left right = ap plain_expr (sym (expr.rolls-Bin op at left right)) ∙ fold-roll-FileExpr FileExpr expr_node (FileExpr-F.Bin op at left right)

plain-Choose : (at : ℕ) (cond left right : FileExpr) → plain_expr (expr.Choose at cond left right) ≡ expr.Choose 0 (plain_expr cond) (plain_expr left) (plain_expr right)
plain-Choose at cond left right = ap plain_expr (sym (expr.rolls-Choose at cond left right)) ∙ fold-roll-FileExpr FileExpr expr_node (FileExpr-F.Choose at cond left right)

plain-Select : (at : ℕ) (arg : FileExpr) (high : ℕ) (low : Option ℕ) → plain_expr (expr.Select at arg high low) ≡ expr.Select 0 (plain_expr arg) high low
plain-Select at arg high low = ap plain_expr (sym (expr.rolls-Select at arg high low)) ∙ fold-roll-FileExpr FileExpr expr_node (FileExpr-F.Select at arg high low)

plain-Concat : (at : ℕ) (left right : FileExpr) → plain_expr (expr.Concat at left right) ≡ expr.Concat 0 (plain_expr left) (plain_expr right)
plain-Concat at left right = ap plain_expr (sym (expr.rolls-Concat at left right)) ∙ fold-roll-FileExpr FileExpr expr_node (FileExpr-F.Concat at left right)

pub same-Bool : (value : Bool) (at to : ℕ) → SameExpr (expr.Bool value at) (expr.Bool value to)
same-Bool value at to = plain-Bool value at ∙ sym (plain-Bool value to)

pub same-Lit : (width value at w v to : ℕ) → width ≡ w → value ≡ v → SameExpr (expr.Lit width value at) (expr.Lit w v to)
same-Lit width value at w v to e f = plain-Lit width value at ∙ ap₂ (λ a b. expr.Lit a b 0) e f ∙ sym (plain-Lit w v to)

pub same-Name : (n m : NameAt) → plain_name n ≡ plain_name m → SameExpr (expr.Name n) (expr.Name m)
same-Name n m e = plain-Name n ∙ ap expr.Name e ∙ sym (plain-Name m)

pub same-Paren : (at to : ℕ) (e f : FileExpr) → SameExpr e f → SameExpr (expr.Paren at e) (expr.Paren to f)
same-Paren at to e f same = plain-Paren at e ∙ ap (λ x. expr.Paren 0 x) same ∙ sym (plain-Paren to f)

pub same-Un : (op : Op1) (at to : ℕ) (e f : FileExpr) → SameExpr e f → SameExpr (expr.Un op at e) (expr.Un op to f)
same-Un op at to e f same = plain-Un op at e ∙ ap (λ x. expr.Un op 0 x) same ∙ sym (plain-Un op to f)

pub same-Bin : (op : Op2) (at to : ℕ) (a b c d : FileExpr) → SameExpr a c → SameExpr b d → SameExpr (expr.Bin op at a b) (expr.Bin op to c d)
same-Bin op at to a b c d left right = plain-Bin op at a b ∙ ap₂ (λ x y. expr.Bin op 0 x y) left right ∙ sym (plain-Bin op to c d)

pub same-Choose : (at to : ℕ) (a b c d e f : FileExpr) → SameExpr a d → SameExpr b e → SameExpr c f → SameExpr (expr.Choose at a b c) (expr.Choose to d e f)
same-Choose at to a b c d e f first second third =
    plain-Choose at a b c ∙ ap (λ x. expr.Choose 0 x (plain_expr b) (plain_expr c)) first ∙ ap₂ (λ x y. expr.Choose 0 (plain_expr d) x y) second third ∙ sym (plain-Choose to d e f)

pub same-Select : (at to : ℕ) (a b : FileExpr) (high h : ℕ) (low l : Option ℕ) → SameExpr a b → high ≡ h → low ≡ l → SameExpr (expr.Select at a high low) (expr.Select to b h l)
same-Select at to a b high h low l same first second =
    plain-Select at a high low ∙ ap (λ x. expr.Select 0 x high low) same ∙ ap₂ (λ x y. expr.Select 0 (plain_expr b) x y) first second ∙ sym (plain-Select to b h l)

pub same-Concat : (at to : ℕ) (a b c d : FileExpr) → SameExpr a c → SameExpr b d → SameExpr (expr.Concat at a b) (expr.Concat to c d)
same-Concat at to a b c d left right = plain-Concat at a b ∙ ap₂ (λ x y. expr.Concat 0 x y) left right ∙ sym (plain-Concat to c d)

-- statements
plain-Pause : (label : Option NameAt) → plain_stmt (stmt.Pause label) ≡ stmt.Pause (plain_label label)
plain-Pause label = ap plain_stmt (sym (stmt.rolls-Pause label)) ∙ fold-roll-FileStmt FileStmt FileBlock stmt_node block_node (FileStmt-F.Pause label)

plain-Halt : (label : Option NameAt) → plain_stmt (stmt.Halt label) ≡ stmt.Halt (plain_label label)
plain-Halt label = ap plain_stmt (sym (stmt.rolls-Halt label)) ∙ fold-roll-FileStmt FileStmt FileBlock stmt_node block_node (FileStmt-F.Halt label)

plain-Await : (label : Option NameAt) (immediate : Bool) (cond : Cond) → plain_stmt (stmt.Await label immediate cond) ≡ stmt.Await (plain_label label) immediate (plain_cond cond)
plain-Await label immediate cond = ap plain_stmt (sym (stmt.rolls-Await label immediate cond)) ∙ fold-roll-FileStmt FileStmt FileBlock stmt_node block_node (FileStmt-F.Await label immediate cond)

plain-Assign : (target : Target) (equals : ℕ) (value : FileExpr) → plain_stmt (stmt.Assign target equals value) ≡ stmt.Assign (plain_target target) 0 (plain_expr value)
plain-Assign target equals value = ap plain_stmt (sym (stmt.rolls-Assign target equals value)) ∙ fold-roll-FileStmt FileStmt FileBlock stmt_node block_node (FileStmt-F.Assign target equals value)

plain-Emit : (target : Target) → plain_stmt (stmt.Emit target) ≡ stmt.Emit (plain_target target)
plain-Emit target = ap plain_stmt (sym (stmt.rolls-Emit target)) ∙ fold-roll-FileStmt FileStmt FileBlock stmt_node block_node (FileStmt-F.Emit target)

plain-Block : (block : FileBlock) → plain_stmt (stmt.Block block) ≡ stmt.Block (plain_block block)
plain-Block block = ap plain_stmt (sym (stmt.rolls-Block block)) ∙ fold-roll-FileStmt FileStmt FileBlock stmt_node block_node (FileStmt-F.Block block)

plain-DoWhile : (body : FileStmt) (cond : Cond) → plain_stmt (stmt.DoWhile body cond) ≡ stmt.DoWhile (plain_stmt body) (plain_cond cond)
plain-DoWhile body cond = ap plain_stmt (sym (stmt.rolls-DoWhile body cond)) ∙ fold-roll-FileStmt FileStmt FileBlock stmt_node block_node (FileStmt-F.DoWhile body cond)

plain-While : (cond : Cond) (body : FileStmt) → plain_stmt (stmt.While cond body) ≡ stmt.While (plain_cond cond) (plain_stmt body)
plain-While cond body = ap plain_stmt (sym (stmt.rolls-While cond body)) ∙ fold-roll-FileStmt FileStmt FileBlock stmt_node block_node (FileStmt-F.While cond body)

plain-Loop : (body : FileStmt) → plain_stmt (stmt.Loop body) ≡ stmt.Loop (plain_stmt body)
plain-Loop body = ap plain_stmt (sym (stmt.rolls-Loop body)) ∙ fold-roll-FileStmt FileStmt FileBlock stmt_node block_node (FileStmt-F.Loop body)

plain-Every : (cond : Cond) (body : FileStmt) → plain_stmt (stmt.Every cond body) ≡ stmt.Every (plain_cond cond) (plain_stmt body)
plain-Every cond body = ap plain_stmt (sym (stmt.rolls-Every cond body)) ∙ fold-roll-FileStmt FileStmt FileBlock stmt_node block_node (FileStmt-F.Every cond body)

plain-Abort : (kind : Kind) (body : FileStmt) (cond : Cond) → plain_stmt (stmt.Abort kind body cond) ≡ stmt.Abort kind (plain_stmt body) (plain_cond cond)
plain-Abort kind body cond = ap plain_stmt (sym (stmt.rolls-Abort kind body cond)) ∙ fold-roll-FileStmt FileStmt FileBlock stmt_node block_node (FileStmt-F.Abort kind body cond)

plain-Suspend : (kind : Kind) (body : FileStmt) (cond : Cond) → plain_stmt (stmt.Suspend kind body cond) ≡ stmt.Suspend kind (plain_stmt body) (plain_cond cond)
plain-Suspend kind body cond = ap plain_stmt (sym (stmt.rolls-Suspend kind body cond)) ∙ fold-roll-FileStmt FileStmt FileBlock stmt_node block_node (FileStmt-F.Suspend kind body cond)

plain-Call : (callee : NameAt) (args : List FileExpr) → plain_stmt (stmt.Call callee args) ≡ stmt.Call (plain_name callee) (map plain_expr args)
plain-Call callee args = ap plain_stmt (sym (stmt.rolls-Call callee args)) ∙ fold-roll-FileStmt FileStmt FileBlock stmt_node block_node (FileStmt-F.Call callee args)

plain-If : (cond : Cond) (first : FileStmt) → plain_stmt (stmt.If cond first None) ≡ stmt.If (plain_cond cond) (plain_stmt first) None
plain-If cond first = ap plain_stmt (sym (stmt.rolls-If cond first None)) ∙ fold-roll-FileStmt FileStmt FileBlock stmt_node block_node (FileStmt-F.If cond first None)

plain-IfElse : (cond : Cond) (first second : FileStmt) → plain_stmt (stmt.If cond first (Some second)) ≡ stmt.If (plain_cond cond) (plain_stmt first) (Some (plain_stmt second))
plain-IfElse cond first second = ap plain_stmt (sym (stmt.rolls-If cond first (Some second))) ∙ fold-roll-FileStmt FileStmt FileBlock stmt_node block_node (FileStmt-F.If cond first (Some second))

pub plain_block_is : (block : FileBlock) → plain_block block ≡ record { decls = map plain_decl block.decls; lists = map (map plain_stmt) block.lists }
plain_block_is block = fold_out-FileBlock FileStmt FileBlock stmt_node block_node block

pub same-Pause : (l k : Option NameAt) → SameLabel l k → SameStmt (stmt.Pause l) (stmt.Pause k)
same-Pause l k e = plain-Pause l ∙ ap stmt.Pause e ∙ sym (plain-Pause k)

pub same-Halt : (l k : Option NameAt) → SameLabel l k → SameStmt (stmt.Halt l) (stmt.Halt k)
same-Halt l k e = plain-Halt l ∙ ap stmt.Halt e ∙ sym (plain-Halt k)

pub same-Await : (l k : Option NameAt) (immediate : Bool) (c d : Cond) → SameLabel l k → SameCond c d → SameStmt (stmt.Await l immediate c) (stmt.Await k immediate d)
same-Await l k immediate c d e f = plain-Await l immediate c ∙ ap₂ (λ x y. stmt.Await x immediate y) e f ∙ sym (plain-Await k immediate d)

pub same-Assign : (t u : Target) (at to : ℕ) (v w : FileExpr) → SameTarget t u → SameExpr v w → SameStmt (stmt.Assign t at v) (stmt.Assign u to w)
same-Assign t u at to v w e f = plain-Assign t at v ∙ ap₂ (λ x y. stmt.Assign x 0 y) e f ∙ sym (plain-Assign u to w)

pub same-Emit : (t u : Target) → SameTarget t u → SameStmt (stmt.Emit t) (stmt.Emit u)
same-Emit t u e = plain-Emit t ∙ ap stmt.Emit e ∙ sym (plain-Emit u)

pub same-Block : (b c : FileBlock) → SameBlock b c → SameStmt (stmt.Block b) (stmt.Block c)
same-Block b c e = plain-Block b ∙ ap stmt.Block e ∙ sym (plain-Block c)

pub same-If : (c d : Cond) (s t : FileStmt) → SameCond c d → SameStmt s t → SameStmt (stmt.If c s None) (stmt.If d t None)
same-If c d s t e f = plain-If c s ∙ ap₂ (λ x y. stmt.If x y None) e f ∙ sym (plain-If d t)

pub same-IfElse : (c d : Cond) (s t u v : FileStmt) → SameCond c d → SameStmt s t → SameStmt u v → SameStmt (stmt.If c s (Some u)) (stmt.If d t (Some v))
same-IfElse c d s t u v e f g =
    plain-IfElse c s u ∙ ap (λ x. stmt.If x (plain_stmt s) (Some (plain_stmt u))) e ∙ ap₂ (λ x y. stmt.If (plain_cond d) x (Some y)) f g ∙ sym (plain-IfElse d t v)

pub same-DoWhile : (s t : FileStmt) (c d : Cond) → SameStmt s t → SameCond c d → SameStmt (stmt.DoWhile s c) (stmt.DoWhile t d)
same-DoWhile s t c d e f = plain-DoWhile s c ∙ ap₂ (λ x y. stmt.DoWhile x y) e f ∙ sym (plain-DoWhile t d)

pub same-While : (c d : Cond) (s t : FileStmt) → SameCond c d → SameStmt s t → SameStmt (stmt.While c s) (stmt.While d t)
same-While c d s t e f = plain-While c s ∙ ap₂ (λ x y. stmt.While x y) e f ∙ sym (plain-While d t)

pub same-Loop : (s t : FileStmt) → SameStmt s t → SameStmt (stmt.Loop s) (stmt.Loop t)
same-Loop s t e = plain-Loop s ∙ ap stmt.Loop e ∙ sym (plain-Loop t)

pub same-Every : (c d : Cond) (s t : FileStmt) → SameCond c d → SameStmt s t → SameStmt (stmt.Every c s) (stmt.Every d t)
same-Every c d s t e f = plain-Every c s ∙ ap₂ (λ x y. stmt.Every x y) e f ∙ sym (plain-Every d t)

pub same-Abort : (kind : Kind) (s t : FileStmt) (c d : Cond) → SameStmt s t → SameCond c d → SameStmt (stmt.Abort kind s c) (stmt.Abort kind t d)
same-Abort kind s t c d e f = plain-Abort kind s c ∙ ap₂ (λ x y. stmt.Abort kind x y) e f ∙ sym (plain-Abort kind t d)

pub same-Suspend : (kind : Kind) (s t : FileStmt) (c d : Cond) → SameStmt s t → SameCond c d → SameStmt (stmt.Suspend kind s c) (stmt.Suspend kind t d)
same-Suspend kind s t c d e f = plain-Suspend kind s c ∙ ap₂ (λ x y. stmt.Suspend kind x y) e f ∙ sym (plain-Suspend kind t d)

pub same-Call : (n m : NameAt) (es fs : List FileExpr) → plain_name n ≡ plain_name m → map plain_expr es ≡ map plain_expr fs → SameStmt (stmt.Call n es) (stmt.Call m fs)
same-Call n m es fs e f = plain-Call n es ∙ ap₂ (λ x y. stmt.Call x y) e f ∙ sym (plain-Call m fs)
