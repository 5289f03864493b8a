-- How the code makes several parts, and a block.
use Rattle.std.proofs.Common.{◌≡◌, ℕ, List, [], ◌∷◌, ◌++◌, length, map, Option, Some, None, Result, Ok, Err, IfOk, refl, sym, ap, ap₂, ◌∙◌, append_assoc}
use Rattle.qz_syntax.specs.declared.expressions.Var.{Var}
use Rattle.qz_syntax.specs.declared.statements.Stmt.{Stmt}
use Rattle.qz_syntax.specs.declared.statements.Stmt.TheVariants as core
use Rattle.qz_syntax.specs.declared.file_statements.FileBlock.{FileBlock}
use Rattle.qz_syntax.specs.declared.file_statements.FileStmt.{FileStmt}
use Rattle.qz_syntax.specs.declared.file_statements.FileStmt.TheVariants.{Block}
use Rattle.qz_syntax.specs.declared.file_statements.FileStmt.TheVariants as stmt
use Rattle.qz_syntax.specs.declared.file_statements.Cond.{Cond}
use Rattle.qz_syntax.specs.declared.files.FileProto.{FileProto}
use Rattle.qz_types.specs.declared.numbers.Numbers.{Numbers}
use Rattle.qz_types.specs.declared.core_declarations.Locals.{Locals}
use Rattle.qz_types.specs.Meanings.{Meanings}
use Rattle.qz_types.specs.Declarations.{declared}
use Rattle.qz_types.specs.CoreDeclarations.{local_names, local_numbers, core_decls}
use Rattle.qz_types.specs.DeclaredLocals.{DeclaresLocals}
use Rattle.qz_types.specs.Makers.{Made, Maker, with_locals, all_made, in_sequence, in_parallel}
use Rattle.qz_types.specs.CoreStatements.{holds, scoped, made}
use Rattle.qz_types.proofs.MadeLemmas.{made-If, made-IfElse, made-Block}

-- one part more: what the rest gives after it is what all give
pub record MadeMore (parts : List Stmt) (makers : List Maker) (names : Meanings Var) (n : Numbers) (trees : List Stmt) (next : Numbers) : Type 0 where
  pub trees_are : parts ++ (all_made makers names n).trees ≡ trees
  pub next_is : (all_made makers names n).next ≡ next

pub made_more : (maker : Maker) (makers : List Maker) (parts grown : List Stmt) (names old : Meanings Var) (n m : Numbers) (part : Stmt) (trees : List Stmt) (next : Numbers)
    → names ≡ old → part ≡ (maker names n).tree → m ≡ (maker names n).next → grown ≡ parts ++ part ∷ []
    → MadeMore parts (maker ∷ makers) old n trees next → MadeMore grown makers old m trees next
made_more maker makers parts grown names old n m part trees next same is_part is_next grows all =
    let p : part ≡ (maker old n).tree = is_part ∙ ap (λ (ns : Meanings Var). (maker ns n).tree) same in
    let q : m ≡ (maker old n).next = is_next ∙ ap (λ (ns : Meanings Var). (maker ns n).next) same in
    record {
      trees_are = ap (λ ps. ps ++ (all_made makers old m).trees) grows ∙ append_assoc parts (part ∷ []) (all_made makers old m).trees
          ∙ ap₂ (λ x (k : Numbers). parts ++ (x ∷ (all_made makers old k).trees)) p q ∙ all.trees_are;
      next_is = ap (λ (k : Numbers). (all_made makers old k).next) q ∙ all.next_is;
    }

-- a block, made of its locals and its lists
pub record MakesBlock (tree : Stmt) (next : Numbers) (block : Made) : Type 0 where
  pub tree_is : tree ≡ block.tree
  pub next_is : next ≡ block.next

pub makes_block : (protos : List FileProto) (callees : Meanings ℕ) (block : FileBlock) (old new : Meanings Var) (n m next : Numbers) (locals : Locals) (body tree : Stmt)
    → DeclaresLocals (local_names block.decls) (core_decls block.decls) old new n m (record { numbers = []; hidden = [] }) locals
    → body ≡ (in_parallel (map (λ list. in_sequence (map (made protos callees) list)) block.lists) new m).tree
    → next ≡ (in_parallel (map (λ list. in_sequence (map (made protos callees) list)) block.lists) new m).next
    → tree ≡ scoped locals.numbers body → MakesBlock tree next (made protos callees (Block block) old n)
makes_block protos callees block old new n m next locals body tree declares is_body is_next is_tree =
    let lists = in_parallel (map (λ list. in_sequence (map (made protos callees) list)) block.lists) in
    let whole = ap (λ (maker : Maker). maker old n) (made-Block protos callees block) in
    let names = declared (local_numbers (length n.decls) (local_names block.decls)) old in
    let e : lists new m ≡ lists names (with_locals n (core_decls block.decls)) = ap₂ (λ (ns : Meanings Var) (k : Numbers). lists ns k) declares.names declares.next in
    record {
      tree_is = is_tree ∙ ap₂ scoped declares.numbers (is_body ∙ ap (λ (x : Made). x.tree) e) ∙ sym (ap (λ (x : Made). x.tree) whole);
      next_is = is_next ∙ ap (λ (x : Made). x.next) e ∙ sym (ap (λ (x : Made). x.next) whole);
    }

-- `if` with `else`, made of its two sides
pub if_else_tree : {E : Type 0} (protos : List FileProto) (callees : Meanings ℕ) (c : Cond) (s t : FileStmt) (names a b : Meanings Var) (n m : Numbers) (first second : Stmt) (r : Result Stmt E)
    → first ≡ (made protos callees s names n).tree → m ≡ (made protos callees s names n).next → a ≡ names
    → second ≡ (made protos callees t a m).tree → b ≡ a → IfOk r (λ tree. tree ≡ core.If (holds c b) first second)
    → IfOk r (λ tree. tree ≡ (made protos callees (stmt.If c s (Some t)) names n).tree)
if_else_tree protos callees c s t names a b n m first second (Err e) x y same z same_b h = tt
if_else_tree protos callees c s t names a b n m first second (Ok tree) x y same z same_b h =
    h ∙ ap (λ (ns : Meanings Var). core.If (holds c ns) first second) (same_b ∙ same)
    ∙ ap₂ (λ p q. core.If (holds c names) p q) x (z ∙ ap₂ (λ (ns : Meanings Var) (k : Numbers). (made protos callees t ns k).tree) same y)
    ∙ sym (ap (λ (maker : Maker). (maker names n).tree) (made-IfElse protos callees c s t))

pub if_else_next : (protos : List FileProto) (callees : Meanings ℕ) (c : Cond) (s t : FileStmt) (names a : Meanings Var) (n m k : Numbers)
    → m ≡ (made protos callees s names n).next → a ≡ names → k ≡ (made protos callees t a m).next
    → k ≡ (made protos callees (stmt.If c s (Some t)) names n).next
if_else_next protos callees c s t names a n m k y same z =
    z ∙ ap₂ (λ (ns : Meanings Var) (j : Numbers). (made protos callees t ns j).next) same y
    ∙ sym (ap (λ (maker : Maker). (maker names n).next) (made-IfElse protos callees c s t))

-- `if` without `else`
pub if_tree : {E : Type 0} (protos : List FileProto) (callees : Meanings ℕ) (c : Cond) (s : FileStmt) (names a : Meanings Var) (n : Numbers) (first : Stmt) (r : Result Stmt E)
    → first ≡ (made protos callees s names n).tree → a ≡ names → IfOk r (λ tree. tree ≡ core.If (holds c a) first core.Nothing)
    → IfOk r (λ tree. tree ≡ (made protos callees (stmt.If c s None) names n).tree)
if_tree protos callees c s names a n first (Err e) x same h = tt
if_tree protos callees c s names a n first (Ok tree) x same h =
    h ∙ ap₂ (λ (ns : Meanings Var) p. core.If (holds c ns) p core.Nothing) same x ∙ sym (ap (λ (maker : Maker). (maker names n).tree) (made-If protos callees c s))

pub if_next : (protos : List FileProto) (callees : Meanings ℕ) (c : Cond) (s : FileStmt) (names : Meanings Var) (n m : Numbers)
    → m ≡ (made protos callees s names n).next → m ≡ (made protos callees (stmt.If c s None) names n).next
if_next protos callees c s names n m y = y ∙ sym (ap (λ (maker : Maker). (maker names n).next) (made-If protos callees c s))

-- a block, at the end of the code that makes it
pub block_tree : {E : Type 0} (protos : List FileProto) (callees : Meanings ℕ) (block : FileBlock) (old new : Meanings Var) (n m next : Numbers) (locals : Locals) (body : Stmt) (r : Result Stmt E)
    → DeclaresLocals (local_names block.decls) (core_decls block.decls) old new n m (record { numbers = []; hidden = [] }) locals
    → body ≡ (in_parallel (map (λ list. in_sequence (map (made protos callees) list)) block.lists) new m).tree
    → next ≡ (in_parallel (map (λ list. in_sequence (map (made protos callees) list)) block.lists) new m).next
    → IfOk r (λ tree. tree ≡ scoped locals.numbers body) → IfOk r (λ tree. tree ≡ (made protos callees (Block block) old n).tree)
block_tree protos callees block old new n m next locals body (Err e) declares is_body is_next h = tt
block_tree protos callees block old new n m next locals body (Ok tree) declares is_body is_next h =
    (makes_block protos callees block old new n m next locals body tree declares is_body is_next h).tree_is

pub block_next : (protos : List FileProto) (callees : Meanings ℕ) (block : FileBlock) (old new : Meanings Var) (n m next : Numbers) (locals : Locals) (body : Stmt)
    → DeclaresLocals (local_names block.decls) (core_decls block.decls) old new n m (record { numbers = []; hidden = [] }) locals
    → body ≡ (in_parallel (map (λ list. in_sequence (map (made protos callees) list)) block.lists) new m).tree
    → next ≡ (in_parallel (map (λ list. in_sequence (map (made protos callees) list)) block.lists) new m).next
    → next ≡ (made protos callees (Block block) old n).next
block_next protos callees block old new n m next locals body declares is_body is_next =
    (makes_block protos callees block old new n m next locals body (scoped locals.numbers body) declares is_body is_next refl).next_is
