-- The numbers in a tree, each kind as the list of them in tree order.
use Rattle.std.specs.Prelude.{ℕ, ◌==◌, Bool, false, List, [], ◌∷◌, ◌++◌, map, max, fold, ◌+◌}
use Rattle.std.specs.Option.{option_to_list}
use Rattle.std.specs.List.{concat, list_all, list_any}
use Rattle.qz_syntax.specs.declared.statements.Binding.{Binding}
use Rattle.qz_syntax.specs.declared.statements.Stmt.{Stmt}
use Rattle.qz_syntax.specs.declared.statements.Stmt.TheOpen.{Stmt-F}
use Rattle.qz_syntax.specs.declared.statements.Stmt.TheFolds.{fold-Stmt}

-- whether a number is among these
abbrev pub contains : List ℕ → ℕ → Bool
contains numbers n = list_any (λ number. number == n) numbers

-- the results of a statement's parts, in tree order
abbrev pub parts_of : {A : Type 0} → Stmt-F A → List A
parts_of (Stmt-F.Seq parts) = parts
parts_of (Stmt-F.Par parts) = parts
parts_of (Stmt-F.If condition first second) = first ∷ second ∷ []
parts_of (Stmt-F.Loop number body condition) = body ∷ []
parts_of (Stmt-F.Abort kind body condition) = body ∷ []
parts_of (Stmt-F.Suspend kind hold body condition) = body ∷ []
parts_of (Stmt-F.Scope locals body) = body ∷ []
parts_of (Stmt-F.Bind bindings body) = body ∷ []
parts_of leaf = []

-- a node's own numbers, and then those of its parts
abbrev pub in_tree_order : (Stmt-F (List ℕ) → List ℕ) → Stmt → List ℕ
in_tree_order own = fold-Stmt (List ℕ) (λ node. own node ++ concat (parts_of node))

-- a pause has its place, and an immediate suspend its hold place
abbrev pub own_places : Stmt-F (List ℕ) → List ℕ
own_places (Stmt-F.Pause place) = place ∷ []
own_places (Stmt-F.Suspend kind hold body condition) = option_to_list hold
own_places other = []

-- an immediate suspend has its hold place
abbrev pub own_holds : Stmt-F (List ℕ) → List ℕ
own_holds (Stmt-F.Suspend kind hold body condition) = option_to_list hold
own_holds other = []

-- a loop has its number
abbrev pub own_loops : Stmt-F (List ℕ) → List ℕ
own_loops (Stmt-F.Loop number body condition) = number ∷ []
own_loops other = []

-- a scope has the numbers of its locals
abbrev pub own_locals : Stmt-F (List ℕ) → List ℕ
own_locals (Stmt-F.Scope locals body) = locals
own_locals other = []

-- a call has its number
abbrev pub own_calls : Stmt-F (List ℕ) → List ℕ
own_calls (Stmt-F.Call number proto arguments) = number ∷ []
own_calls other = []

-- a bound body has the numbers of its arguments
abbrev pub own_arguments : Stmt-F (List ℕ) → List ℕ
own_arguments (Stmt-F.Bind bindings body) = map (λ (binding : Binding). binding.number) bindings
own_arguments other = []

-- the places, of pauses and of immediate suspends
abbrev pub places_of : Stmt → List ℕ
places_of = in_tree_order own_places

-- the hold places alone
abbrev pub holds_of : Stmt → List ℕ
holds_of = in_tree_order own_holds

-- the loops
abbrev pub loops_of : Stmt → List ℕ
loops_of = in_tree_order own_loops

-- the locals, where they are declared
abbrev pub locals_of : Stmt → List ℕ
locals_of = in_tree_order own_locals

-- the calls
abbrev pub calls_of : Stmt → List ℕ
calls_of = in_tree_order own_calls

-- the numbers to which arguments are bound
abbrev pub arguments_of : Stmt → List ℕ
arguments_of = in_tree_order own_arguments

-- how many statements stand in one another
abbrev pub depth_of : Stmt → ℕ
depth_of = fold-Stmt ℕ (λ node. 1 + fold max 0 (parts_of node))

-- one statement, given whether each part is free of callees' bodies
abbrev pub node_is_unbound : Stmt-F Bool → Bool
node_is_unbound (Stmt-F.Bind bindings body) = false
node_is_unbound other = list_all (λ part. part) (parts_of other)

-- whether no callee's body was put in
abbrev pub is_unbound : Stmt → Bool
is_unbound = fold-Stmt Bool node_is_unbound
