-- What small programs are made of, and what the definitions give for a first one.
use Rattle.std.specs.Prelude.{ℕ, List, [], ◌∷◌, Option, None, replicate}
use Rattle.std.specs.List.{list_any}
use Rattle.qz_values.specs.declared.Ty.TheVariants as ty
use Rattle.qz_values.specs.declared.Value.{Value}
use Rattle.qz_values.specs.declared.Know.TheVariants.{Known}
use Rattle.qz_values.specs.Values.{yes, value_of, truth_of}
use Rattle.qz_syntax.specs.declared.declarations.Class.TheVariants.{Event, Mem}
use Rattle.qz_syntax.specs.declared.declarations.Dir.TheVariants as dir
use Rattle.qz_syntax.specs.declared.declarations.Formal.{Formal}
use Rattle.qz_syntax.specs.declared.declarations.Decl.{Decl}
use Rattle.qz_syntax.specs.declared.expressions.Var.TheVariants as var
use Rattle.qz_syntax.specs.declared.expressions.Expr.{Expr}
use Rattle.qz_syntax.specs.declared.expressions.Expr.TheVariants as expr
use Rattle.qz_syntax.specs.declared.modules.Module.{Module}
use Rattle.qz_syntax.specs.declared.statements.Stmt.{Stmt}
use Rattle.qz_syntax.specs.declared.statements.Stmt.TheVariants as stmt
use Rattle.qz_syntax.specs.declared.places.Place.TheVariants as place
use Rattle.qz_syntax.specs.declared.places.Later.TheVariants as later
use Rattle.qz_syntax.specs.declared.places.Residual.TheVariants as residual
use Rattle.qz_meaning.specs.Instances.{Instance, is_same_instance}
use Rattle.qz_meaning.specs.Scenes.{default_store}
use Rattle.qz_meaning.specs.Programs.{Program, program_of}
use Rattle.qz_meaning.specs.Configurations.{Configuration, initial}
use Rattle.qz_meaning.specs.Settling.{Environment}
use Rattle.qz_meaning.specs.Rounds.{IsDefinite}
use Rattle.qz_meaning.specs.MacroSteps.{IsStep}
use Rattle.qz_meaning.specs.Runs.{IsOnlyRun}

-- `event !x`
abbrev pub event_output : Formal
event_output = record { class = Event; dir = dir.Out; ty = ty.Bool; name = [] }

-- `event ?x`
abbrev pub event_input : Formal
event_input = record { class = Event; dir = dir.In; ty = ty.Bool; name = [] }

-- `mem bv[8] !x`
abbrev pub byte_output : Formal
byte_output = record { class = Mem; dir = dir.Out; ty = ty.Bv 8; name = [] }

-- a value of the type `bv[8]`
abbrev pub byte : ℕ → Value
byte n = value_of (ty.Bv 8) n

-- the literal `true`
abbrev pub always : Expr
always = expr.Lit yes

-- a formal, read
abbrev pub formal : ℕ → Expr
formal n = expr.Var (var.Formal n)

-- `emit` of a formal
abbrev pub emit : ℕ → Stmt
emit n = stmt.Assign (var.Formal n) always

-- these instances are `true` and all others are `false`, and nothing is delayed
abbrev pub with_true : List Instance → Environment
with_true instances = record {
  now = λ i. Known (truth_of (list_any (λ other. is_same_instance other i) instances));
  later = λ i. later.Absent;
}

-- a module without labels, whose name and formals' names have no part in what it means
abbrev pub source : List Formal → List Decl → List (Option (List ℕ)) → ℕ → Stmt → Module
source formals decls labels loops body = record {
  name = [];
  formals = formals;
  decls = decls;
  labels = labels;
  loops = loops;
  calls = 0;
  body = body;
}

-- its program
abbrev pub program : List Formal → List Decl → List (Option (List ℕ)) → ℕ → Stmt → Program
program formals decls labels loops body = program_of (source formals decls labels loops body)

-- `loop { emit o; pause; }`
abbrev pub emitting : Module
emitting = source (event_output ∷ []) [] (None ∷ []) 1 (stmt.Loop 0 (stmt.Seq (emit 0 ∷ stmt.Pause 0 ∷ [])) always)

abbrev pub always_emitted : Program
always_emitted = program_of emitting

-- control rests at the pause
abbrev pub at_its_pause : Configuration
at_its_pause = record {
  place = place.Rest (residual.InBody (residual.InSeq 1 (residual.At 0)));
  outputs = default_store ty.Bool ∷ [];
}

-- it emits in its first step, and in each later one, and comes back to the pause
pub record EmitsAlways : Type 0 where
  pub first : IsStep always_emitted (initial always_emitted) [] (yes ∷ []) at_its_pause
  pub again : IsStep always_emitted at_its_pause [] (yes ∷ []) at_its_pause

-- its first configuration is definite
abbrev pub StartsDefinite : Type 0
StartsDefinite = IsDefinite always_emitted (initial always_emitted) []

-- over any number of steps it has exactly one run, and emits in each of them
abbrev pub EmitsInOneRun : Type 0
EmitsInOneRun = (n : ℕ) → IsOnlyRun always_emitted (replicate n []) (replicate n (yes ∷ []))
