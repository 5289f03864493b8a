-- Whether the statements of a tree have the shapes and types that they must have.
use Rattle.std.specs.Prelude.{ℕ, ◌^◌, Bool, true, false, ◌&&◌, nat_le, nat_lt, List, [], ◌∷◌, ◌++◌, length, Option, Some, None, is_some, slice_get, if◌then◌else◌}
use Rattle.std.specs.Option.{option_map, option_map_or}
use Rattle.std.specs.List.{list_all, filter_map}
use Rattle.qz_values.specs.declared.Ty.{Ty}
use Rattle.qz_values.specs.Types.{is_same_type}
use Rattle.qz_syntax.specs.declared.declarations.Dir.TheVariants as dir
use Rattle.qz_syntax.specs.declared.declarations.Formal.{Formal}
use Rattle.qz_syntax.specs.declared.declarations.Proto.{Proto}
use Rattle.qz_syntax.specs.declared.expressions.Var.{Var}
use Rattle.qz_syntax.specs.declared.expressions.Expr.{Expr}
use Rattle.qz_syntax.specs.declared.statements.Kind.{Kind}
use Rattle.qz_syntax.specs.declared.statements.Arg.{Arg}
use Rattle.qz_syntax.specs.declared.statements.Arg.TheVariants as arg
use Rattle.qz_syntax.specs.declared.statements.Binding.{Binding}
use Rattle.qz_syntax.specs.declared.statements.Stmt.{Stmt}
use Rattle.qz_syntax.specs.declared.statements.Stmt.TheOpen.{Stmt-F}
use Rattle.qz_syntax.specs.declared.statements.Stmt.TheFolds.{fold-Stmt}
use Rattle.qz_syntax.specs.Typing.{Declared, Sight, Target, type_of, read_type, written_as, is_same_class, agree, is_condition}

-- the type of an expression at a place
abbrev pub type_at : Declared → Sight → Expr → Option Ty
type_at declared sight value = type_of (read_type declared sight) value

-- an assignment: the target may be written, and the expression has its type
abbrev pub is_assignment : Declared → Sight → Var → Expr → Bool
is_assignment declared sight target value =
    agree (option_map (λ (written : Target). written.ty) (written_as declared sight target)) (type_at declared sight value)

-- whether a variable that may be written has the formal's class and type
abbrev pub is_output_for : Formal → Option Target → Bool
is_output_for formal None = false
is_output_for formal (Some written) = is_same_class written.class formal.class && is_same_type written.ty formal.ty

-- an argument at its formal, which it fits in direction and type, and an output also in class
abbrev pub fits_formal : Declared → Sight → Arg → Formal → Bool
fits_formal declared sight (arg.In value) formal =
    elim formal.dir [ dir.In ↦ agree (type_at declared sight value) (Some formal.ty) | dir.Out ↦ false ]
fits_formal declared sight (arg.Out variable) formal =
    elim formal.dir [ dir.In ↦ false | dir.Out ↦ is_output_for formal (written_as declared sight variable) ]

-- as many arguments as formals, each of which fits
abbrev pub fit_formals : Declared → Sight → List Arg → List Formal → Bool
fit_formals declared sight [] [] = true
fit_formals declared sight [] (formal ∷ formals) = false
fit_formals declared sight (argument ∷ arguments) [] = false
fit_formals declared sight (argument ∷ arguments) (formal ∷ formals) =
    fits_formal declared sight argument formal && fit_formals declared sight arguments formals

-- a call: there is the prototype, and the arguments fit its formals
abbrev pub is_call : Declared → Sight → ℕ → List Arg → Bool
is_call declared sight proto arguments =
    option_map_or (λ (callee : Proto). fit_formals declared sight arguments callee.formals) (slice_get declared.protos proto) false

-- the numbers and types of some bound arguments
abbrev pub types_bound : Declared → Sight → List Binding → List (ℕ × Ty)
types_bound declared sight bindings =
    filter_map (λ (binding : Binding). option_map (λ t. (binding.number, t)) (type_at declared sight binding.value)) bindings

-- whether a bound argument has a type where it is bound
abbrev pub has_type : Declared → Sight → Binding → Bool
has_type declared sight binding = is_some (type_at declared sight binding.value)

-- at least two members, of which each has a number of 32 bits
abbrev pub has_members : {A : Type 0} → List A → Bool
has_members parts = nat_le 2 (length parts) && nat_lt (length parts) (2 ^ 32)

-- a hold place exactly where the suspend is immediate
abbrev pub is_hold_of : Kind → Option ℕ → Bool
is_hold_of kind (Some place) = kind.immediate
is_hold_of kind None = if kind.immediate then false else true

-- inside a scope its locals may be named too
abbrev pub in_scope : Sight → List ℕ → Sight
in_scope sight locals = record { locals = locals ++ sight.locals; bound = sight.bound }

-- inside a bound body its arguments may be read too
abbrev pub with_bound : Sight → List (ℕ × Ty) → Sight
with_bound sight types = record { locals = sight.locals; bound = types ++ sight.bound }

-- one statement, given whether each part is sound where some things may be named
abbrev pub node_is_sound : Declared → Stmt-F (Sight → Bool) → Sight → Bool
node_is_sound declared Stmt-F.Nothing sight = true
node_is_sound declared (Stmt-F.Assign target value) sight = is_assignment declared sight target value
node_is_sound declared (Stmt-F.Delayed target value) sight = is_assignment declared sight target value
node_is_sound declared (Stmt-F.Pause place) sight = true
node_is_sound declared (Stmt-F.Seq parts) sight = has_members parts && list_all (λ part. part sight) parts
node_is_sound declared (Stmt-F.Par parts) sight = has_members parts && list_all (λ part. part sight) parts
node_is_sound declared (Stmt-F.If condition first second) sight =
    is_condition (type_at declared sight condition) && (first sight && second sight)
node_is_sound declared (Stmt-F.Loop number body condition) sight = is_condition (type_at declared sight condition) && body sight
node_is_sound declared (Stmt-F.Abort kind body condition) sight = is_condition (type_at declared sight condition) && body sight
node_is_sound declared (Stmt-F.Suspend kind hold body condition) sight =
    is_hold_of kind hold && (is_condition (type_at declared sight condition) && body sight)
node_is_sound declared (Stmt-F.Scope locals body) sight = nat_le 1 (length locals) && body (in_scope sight locals)
node_is_sound declared (Stmt-F.Call number proto arguments) sight = is_call declared sight proto arguments
node_is_sound declared (Stmt-F.Bind bindings body) sight =
    list_all (has_type declared sight) bindings && body (with_bound sight (types_bound declared sight bindings))

-- whether a statement is sound where some things may be named
abbrev pub is_sound : Declared → Stmt → Sight → Bool
is_sound declared = fold-Stmt (Sight → Bool) (node_is_sound declared)
