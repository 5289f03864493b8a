-- Loops, aborts and suspends, as their nets say what they do.
use Rattle.std.specs.Prelude.{ℕ, ◌∷◌, ◌++◌, Option, Some, None, if◌then◌else◌}
use Rattle.qz_values.specs.declared.Know.{Know}
use Rattle.qz_values.specs.Knowledge.{both, either, opposite, choose_of}
use Rattle.qz_syntax.specs.declared.expressions.Expr.{Expr}
use Rattle.qz_syntax.specs.declared.statements.Kind.{Kind}
use Rattle.qz_syntax.specs.declared.places.Mark.TheVariants as mark
use Rattle.qz_meaning.specs.Scenes.{Scene, Context}
use Rattle.qz_meaning.specs.Expressions.{value_here}
use Rattle.qz_meaning.specs.Layouts.{PlaceBits}
use Rattle.qz_meaning.specs.Aborts.{body_guard, start_guard}
use Rattle.qz_meaning.specs.Landings.{At}
use Rattle.qz_control.specs.Leaves.{known_bit}
use Rattle.qz_control.specs.Guarded.{lively, where_inside, goes, stays}
use Rattle.qz_control.specs.Mirrors.{Walk, Mirror}

-- the body ends, where control rests in it, and the condition holds
abbrev pub turns_by : Mirror → Know → Context → PlaceBits → Know
turns_by body c ctx b = both (body.ended ctx b) c

-- a loop, whose body is started with its mark where it turns
abbrev pub loop_mirror : Scene → ℕ → Mirror → Expr → Walk → Mirror
loop_mirror scene number body condition walk = record {
  walk = walk;
  enter = λ ctx m g. body.enter ctx m g;
  rests = λ ctx m g. body.rests ctx m g;
  inside = λ b. body.inside b;
  ended = λ ctx b. where_inside (body.inside b) (both (body.ended ctx b) (opposite (value_here scene ctx condition)));
  run = λ ctx b act live g.
      body.run ctx b act live g
      ++ lively (body.inside b) (body.walk.start ctx (both (both act (body.ended ctx b)) (value_here scene ctx condition)) (mark.Loop number));
  move = λ ctx b stay go g.
      body.move ctx b stay go g
      ++ body.enter ctx (mark.Loop number) (both go (turns_by body (value_here scene ctx condition) ctx b));
  moved = λ ctx b stay go g.
      either (body.moved ctx b stay go g)
      (body.rests ctx (mark.Loop number) (both go (turns_by body (value_here scene ctx condition) ctx b)));
}

-- the guard of where control rests in the body on a start: only an immediate preemption looks at its condition
abbrev pub kept_guard : Kind → Know → Know → Know
kept_guard kind c g = if kind.immediate then goes c g else g

abbrev pub abort_mirror : Scene → Kind → Mirror → Expr → Walk → Mirror
abort_mirror scene kind body condition walk = record {
  walk = walk;
  enter = λ ctx m g. body.enter ctx m (kept_guard kind (value_here scene ctx condition) g);
  rests = λ ctx m g. body.rests ctx m (kept_guard kind (value_here scene ctx condition) g);
  inside = λ b. body.inside b;
  ended = λ ctx b. where_inside (body.inside b) (either (value_here scene ctx condition) (body.ended ctx b));
  run = λ ctx b act live g.
      body.run ctx b (body_guard kind (value_here scene ctx condition) act) live (start_guard kind (value_here scene ctx condition) g);
  move = λ ctx b stay go g.
      body.move ctx b stay (goes (value_here scene ctx condition) go) (kept_guard kind (value_here scene ctx condition) g);
  moved = λ ctx b stay go g.
      body.moved ctx b stay (goes (value_here scene ctx condition) go) (kept_guard kind (value_here scene ctx condition) g);
}

-- a suspend that isn't immediate
abbrev pub suspend_mirror : Scene → Kind → Mirror → Expr → Walk → Mirror
suspend_mirror scene kind body condition walk = record {
  walk = walk;
  enter = λ ctx m g. body.enter ctx m g;
  rests = λ ctx m g. body.rests ctx m g;
  inside = λ b. body.inside b;
  ended = λ ctx b. where_inside (body.inside b) (both (opposite (value_here scene ctx condition)) (body.ended ctx b));
  run = λ ctx b act live g. body.run ctx b (body_guard kind (value_here scene ctx condition) act) live g;
  move = λ ctx b stay go g.
      body.move ctx b (stays (value_here scene ctx condition) stay go) (goes (value_here scene ctx condition) go) g;
  moved = λ ctx b stay go g.
      body.moved ctx b (stays (value_here scene ctx condition) stay go) (goes (value_here scene ctx condition) go) g;
}

-- the guard of what is started: from the hold place where control is there
abbrev pub from_hold : PlaceBits → ℕ → Know → Know → Know
from_hold b hold act g = choose_of (known_bit (b.place hold)) act g

-- control rests at the hold place, from whether it is to stay, to go on, or is started
abbrev pub held_when : PlaceBits → ℕ → Know → Know → Know → Know → Know
held_when b hold c stay go g = either (both (known_bit (b.place hold)) stay) (both (from_hold b hold go g) c)

-- an immediate suspend, with its hold place
abbrev pub hold_mirror : Scene → Kind → ℕ → Mirror → Expr → Walk → Mirror
hold_mirror scene kind hold body condition walk = record {
  walk = walk;
  enter = λ ctx m g.
      (At hold, both g (value_here scene ctx condition)) ∷ body.enter ctx m (goes (value_here scene ctx condition) g);
  rests = λ ctx m g.
      either (both g (value_here scene ctx condition)) (body.rests ctx m (goes (value_here scene ctx condition) g));
  inside = λ b. either (known_bit (b.place hold)) (body.inside b);
  ended = λ ctx b.
      choose_of (known_bit (b.place hold)) (both (opposite (value_here scene ctx condition)) (body.walk.ends ctx mark.Zero))
      (where_inside (body.inside b) (both (opposite (value_here scene ctx condition)) (body.ended ctx b)));
  run = λ ctx b act live g.
      body.run ctx b (body_guard kind (value_here scene ctx condition) act) (either live (known_bit (b.place hold)))
      (start_guard kind (value_here scene ctx condition) (from_hold b hold act g));
  move = λ ctx b stay go g.
      (At hold, held_when b hold (value_here scene ctx condition) stay go g)
      ∷ body.move ctx b (stays (value_here scene ctx condition) stay go) (goes (value_here scene ctx condition) go)
      (goes (value_here scene ctx condition) (from_hold b hold go g));
  moved = λ ctx b stay go g.
      either (held_when b hold (value_here scene ctx condition) stay go g)
      (body.moved ctx b (stays (value_here scene ctx condition) stay go) (goes (value_here scene ctx condition) go)
      (goes (value_here scene ctx condition) (from_hold b hold go g)));
}

abbrev pub suspension_mirror : Scene → Kind → Option ℕ → Mirror → Expr → Walk → Mirror
suspension_mirror scene kind None body condition walk = suspend_mirror scene kind body condition walk
suspension_mirror scene kind (Some hold) body condition walk = hold_mirror scene kind hold body condition walk
