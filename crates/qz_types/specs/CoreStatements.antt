-- The statements of the core tree: derived forms are replaced, and names are numbers.
use Rattle.std.specs.Prelude.{ℕ, Bool, true, false, List, [], ◌∷◌, map, length, Option, Some, None, unwrap_or, if◌then◌else◌}
use Rattle.std.specs.Option.{option_map, option_map_or}
use Rattle.std.specs.List.{range_with_len}
use Rattle.qz_values.specs.declared.Op1.TheVariants as op
use Rattle.qz_values.specs.Values.{yes}
use Rattle.qz_syntax.specs.declared.declarations.Dir.{Dir}
use Rattle.qz_syntax.specs.declared.declarations.Dir.TheVariants as dir
use Rattle.qz_syntax.specs.declared.declarations.Decl.{Decl}
use Rattle.qz_syntax.specs.declared.names.Name.{Name}
use Rattle.qz_syntax.specs.declared.expressions.Var.{Var}
use Rattle.qz_syntax.specs.declared.expressions.Var.TheVariants as var
use Rattle.qz_syntax.specs.declared.expressions.Expr.{Expr}
use Rattle.qz_syntax.specs.declared.expressions.Expr.TheVariants as expr
use Rattle.qz_syntax.specs.declared.statements.Arg.{Arg}
use Rattle.qz_syntax.specs.declared.statements.Arg.TheVariants as arg
use Rattle.qz_syntax.specs.declared.statements.Kind.{Kind}
use Rattle.qz_syntax.specs.declared.statements.Stmt.{Stmt}
use Rattle.qz_syntax.specs.declared.statements.Stmt.TheVariants as core
use Rattle.qz_syntax.specs.declared.file_expressions.NameAt.{NameAt}
use Rattle.qz_syntax.specs.declared.file_expressions.FileExpr.{FileExpr, out-FileExpr}
use Rattle.qz_syntax.specs.declared.file_expressions.FileExpr.TheOpen.{FileExpr-F}
use Rattle.qz_syntax.specs.declared.file_statements.Cond.{Cond}
use Rattle.qz_syntax.specs.declared.file_statements.Target.{Target}
use Rattle.qz_syntax.specs.declared.file_statements.FileStmt.{FileStmt}
use Rattle.qz_syntax.specs.declared.file_statements.FileStmt.TheOpen.{FileStmt-F, FileBlock-F}
use Rattle.qz_syntax.specs.declared.file_statements.FileStmt.TheFolds.{fold-FileStmt}
use Rattle.qz_syntax.specs.declared.files.FileFormal.{FileFormal}
use Rattle.qz_syntax.specs.declared.files.FileProto.{FileProto}
use Rattle.qz_types.specs.declared.numbers.Numbers.{Numbers}
use Rattle.qz_types.specs.Meanings.{Meanings}
use Rattle.qz_types.specs.Declarations.{declared}
use Rattle.qz_types.specs.ArgumentFaults.{formals_of}
use Rattle.qz_types.specs.CoreExpressions.{core_expression, core_variable}
use Rattle.qz_types.specs.CoreDeclarations.{local_names, local_numbers, core_decls}
use Rattle.qz_types.specs.Makers.{Made, Maker, Valued, with_call, with_locals, inside, always, plainly, pausing, repeating, branching, aborting, suspending, in_sequence, in_parallel}

-- a condition
abbrev pub holds : Cond → Valued
holds condition names = core_expression names condition.expr

-- a condition that doesn't hold
abbrev pub fails : Cond → Valued
fails condition names = expr.Un op.Not (holds condition names)

-- a label's name, if there is a label
abbrev pub label_name : Option NameAt → Option Name
label_name label = option_map (λ (name : NameAt). name.name) label

-- an assignment of a value, in this step or to the next one
abbrev pub assigned : Target → Expr → Meanings Var → Stmt
assigned target value names =
    if target.next then core.Delayed (core_variable names target.name.name) value
    else core.Assign (core_variable names target.name.name) value

-- `nothing;`
abbrev pub doing_nothing : Maker
doing_nothing = plainly (λ names. core.Nothing)

-- `while(e) S` is `if(e) do S while(e); else nothing;`
abbrev pub whiling : Valued → Maker → Maker
whiling condition body = branching condition (repeating body condition) doing_nothing

-- `l: halt;` is `do l: pause; while(true);`
abbrev pub halting : Option NameAt → Maker
halting label = repeating (pausing (label_name label)) always

-- `l: await(e);` is `do l: pause; while(!e);`
abbrev pub awaiting : Option NameAt → Cond → Maker
awaiting label condition = repeating (pausing (label_name label)) (fails condition)

-- `l: immediate await(e);` is `while(!e) l: pause;`
abbrev pub awaiting_now : Option NameAt → Cond → Maker
awaiting_now label condition = whiling (fails condition) (pausing (label_name label))

-- an abort that isn't weak, and doesn't look at its condition when it starts
abbrev pub strong : Kind
strong = record { weak = false; immediate = false }

-- `loop abort { S halt; } when(e);`
abbrev pub restarting : Cond → Maker → Maker
restarting condition body =
    repeating (aborting strong (in_sequence (body ∷ (halting None ∷ []))) (holds condition)) always

-- `every(e) S` is `await(e); loop abort { S halt; } when(e);`
abbrev pub on_every : Cond → Maker → Maker
on_every condition body = in_sequence (awaiting None condition ∷ (restarting condition body ∷ []))

-- an output's argument, which is a plain name
abbrev pub output_variable : {A : Type 0} → Meanings Var → FileExpr-F A → Var
output_variable names (FileExpr-F.Name name) = core_variable names name.name
output_variable names other = var.Formal 0

-- an argument, by its formal's direction
abbrev pub core_argument : Meanings Var → Dir → FileExpr → Arg
core_argument names dir.In argument = arg.In (core_expression names argument)
core_argument names dir.Out argument = arg.Out (output_variable names (out-FileExpr argument))

-- the arguments of a call, each at its formal
abbrev pub core_arguments : Meanings Var → List FileFormal → List FileExpr → List Arg
core_arguments names formals [] = []
core_arguments names [] (argument ∷ arguments) = []
core_arguments names (formal ∷ formals) (argument ∷ arguments) =
    core_argument names formal.dir argument ∷ core_arguments names formals arguments

-- a call of the prototype with this number and these formals
abbrev pub calling : ℕ → List FileFormal → List FileExpr → Maker
calling proto formals arguments names n =
    record { tree = core.Call n.calls proto (core_arguments names formals arguments); next = with_call n }

-- one statement, given what makes its parts
abbrev pub node_made : List FileProto → Meanings ℕ → FileStmt-F Maker Maker → Maker
node_made protos callees FileStmt-F.Nothing = doing_nothing
node_made protos callees (FileStmt-F.Pause label) = pausing (label_name label)
node_made protos callees (FileStmt-F.Halt label) = halting label
node_made protos callees (FileStmt-F.Await label immediate condition) =
    if immediate then awaiting_now label condition else awaiting label condition
node_made protos callees (FileStmt-F.Assign target equals value) =
    plainly (λ names. assigned target (core_expression names value) names)
node_made protos callees (FileStmt-F.Emit target) = plainly (assigned target (expr.Lit yes))
node_made protos callees (FileStmt-F.Block block) = block
node_made protos callees (FileStmt-F.If condition first second) =
    branching (holds condition) first (unwrap_or second doing_nothing)
node_made protos callees (FileStmt-F.DoWhile body condition) = repeating body (holds condition)
node_made protos callees (FileStmt-F.While condition body) = whiling (holds condition) body
node_made protos callees (FileStmt-F.Loop body) = repeating body always
node_made protos callees (FileStmt-F.Every condition body) = on_every condition body
node_made protos callees (FileStmt-F.Abort kind body condition) = aborting kind body (holds condition)
node_made protos callees (FileStmt-F.Suspend kind body condition) = suspending kind body (holds condition)
node_made protos callees (FileStmt-F.Call callee arguments) =
    calling (unwrap_or (callees callee.name) 0) (unwrap_or (formals_of protos callees callee.name) []) arguments

-- one scope of some locals, if there are any, round a statement
abbrev pub scoped : List ℕ → Stmt → Stmt
scoped [] body = body
scoped (local ∷ locals) body = core.Scope (local ∷ locals) body

-- what is made where names stand for some locals too, in one scope of them
abbrev pub in_scope : List NameAt → List Decl → Maker → Maker
in_scope locals decls body names n =
    inside (scoped (range_with_len (length n.decls) (length locals)))
    (body (declared (local_numbers (length n.decls) locals) names) (with_locals n decls))

-- a block: one scope of its locals, if it has any, round its lists
abbrev pub block_made : FileBlock-F Maker Maker → Maker
block_made block = in_scope (local_names block.decls) (core_decls block.decls) (in_parallel (map in_sequence block.lists))

-- what makes a statement, with these prototypes and the numbers that their names stand for
unfoldable pub made : List FileProto → Meanings ℕ → FileStmt → Maker
made protos callees = fold-FileStmt Maker Maker (node_made protos callees) block_made
