-- Statements one after the other, all at once, and one of two, as their nets say what they do.
use Rattle.std.specs.Prelude.{List, [], ◌∷◌, ◌++◌}
use Rattle.qz_values.specs.declared.Know.{Know}
use Rattle.qz_values.specs.declared.Know.TheVariants.{Known}
use Rattle.qz_values.specs.Values.{yes, no}
use Rattle.qz_values.specs.Knowledge.{both, either, choose_of}
use Rattle.qz_syntax.specs.declared.places.Mark.{Mark}
use Rattle.qz_syntax.specs.declared.places.Mark.TheVariants as mark
use Rattle.qz_syntax.specs.declared.expressions.Expr.{Expr}
use Rattle.qz_meaning.specs.Scenes.{Scene, Context}
use Rattle.qz_meaning.specs.Expressions.{value_here}
use Rattle.qz_meaning.specs.Layouts.{PlaceBits}
use Rattle.qz_control.specs.Guarded.{Deeds, Guarded, where_inside, goes}
use Rattle.qz_control.specs.Mirrors.{Walk, Mirror, any_inside}

-- members that are started one after the other
abbrev pub enter_all : Context → List Mirror → Mark → Know → Guarded
enter_all ctx [] m g = []
enter_all ctx (part ∷ parts) m g = part.enter ctx m g ++ enter_all ctx parts m (both g (part.walk.ends ctx m))

abbrev pub rests_all : Context → List Mirror → Mark → Know → Know → Know
rests_all ctx [] m g so_far = so_far
rests_all ctx (part ∷ parts) m g so_far =
    rests_all ctx parts m (both g (part.walk.ends ctx m)) (either so_far (part.rests ctx m g))

-- the ends so far, and then those up to and with a member: none before control was met
abbrev pub ended_after : Context → Mirror → PlaceBits → Know → Know → Know
ended_after ctx part b live so_far =
    choose_of (part.inside b) (part.ended ctx b) (where_inside live (both so_far (part.walk.ends ctx mark.Zero)))

abbrev pub ended_all : Context → List Mirror → PlaceBits → Know → Know → Know
ended_all ctx [] b live so_far = so_far
ended_all ctx (part ∷ parts) b live so_far = ended_all ctx parts b (either live (part.inside b)) (ended_after ctx part b live so_far)

-- the guard of the next member: from this one where control rests in it, else as one more that was started
abbrev pub next_guard : Context → Mirror → PlaceBits → Know → Know → Know
next_guard ctx part b act g = choose_of (part.inside b) (both act (part.ended ctx b)) (both g (part.walk.ends ctx mark.Zero))

abbrev pub run_all : Context → List Mirror → PlaceBits → Know → Know → Know → Deeds
run_all ctx [] b act live g = []
run_all ctx (part ∷ parts) b act live g =
    part.run ctx b act live g ++ run_all ctx parts b act (either live (part.inside b)) (next_guard ctx part b act g)

abbrev pub move_all : Context → List Mirror → PlaceBits → Know → Know → Know → Guarded
move_all ctx [] b stay go g = []
move_all ctx (part ∷ parts) b stay go g = part.move ctx b stay go g ++ move_all ctx parts b stay go (next_guard ctx part b go g)

abbrev pub moved_all : Context → List Mirror → PlaceBits → Know → Know → Know → Know → Know
moved_all ctx [] b stay go g so_far = so_far
moved_all ctx (part ∷ parts) b stay go g so_far =
    moved_all ctx parts b stay go (next_guard ctx part b go g) (either so_far (part.moved ctx b stay go g))

abbrev pub sequence_mirror : List Mirror → Walk → Mirror
sequence_mirror parts walk = record {
  walk = walk;
  enter = λ ctx m g. enter_all ctx parts m g;
  rests = λ ctx m g. rests_all ctx parts m g (Known no);
  inside = λ b. any_inside parts b (Known no);
  ended = λ ctx b. ended_all ctx parts b (Known no) (Known no);
  run = λ ctx b act live g. run_all ctx parts b act live g;
  move = λ ctx b stay go g. move_all ctx parts b stay go g;
  moved = λ ctx b stay go g. moved_all ctx parts b stay go g (Known no);
}

-- members that are started all at once
abbrev pub enter_each : Context → List Mirror → Mark → Know → Guarded
enter_each ctx [] m g = []
enter_each ctx (part ∷ parts) m g = part.enter ctx m g ++ enter_each ctx parts m g

abbrev pub rests_each : Context → List Mirror → Mark → Know → Know → Know
rests_each ctx [] m g so_far = so_far
rests_each ctx (part ∷ parts) m g so_far = rests_each ctx parts m g (either so_far (part.rests ctx m g))

-- the ends of those in which control rests
abbrev pub ended_each : Context → List Mirror → PlaceBits → Know → Know
ended_each ctx [] b so_far = so_far
ended_each ctx (part ∷ parts) b so_far =
    ended_each ctx parts b (choose_of (part.inside b) (both so_far (part.ended ctx b)) so_far)

abbrev pub run_each : Context → List Mirror → PlaceBits → Know → Know → Know → Deeds
run_each ctx [] b act live g = []
run_each ctx (part ∷ parts) b act live g = part.run ctx b act live g ++ run_each ctx parts b act live g

abbrev pub move_each : Context → List Mirror → PlaceBits → Know → Know → Know → Guarded
move_each ctx [] b stay go g = []
move_each ctx (part ∷ parts) b stay go g = part.move ctx b stay go g ++ move_each ctx parts b stay go g

abbrev pub moved_each : Context → List Mirror → PlaceBits → Know → Know → Know → Know → Know
moved_each ctx [] b stay go g so_far = so_far
moved_each ctx (part ∷ parts) b stay go g so_far = moved_each ctx parts b stay go g (either so_far (part.moved ctx b stay go g))

abbrev pub parallel_mirror : List Mirror → Walk → Mirror
parallel_mirror parts walk = record {
  walk = walk;
  enter = λ ctx m g. enter_each ctx parts m g;
  rests = λ ctx m g. rests_each ctx parts m g (Known no);
  inside = λ b. any_inside parts b (Known no);
  ended = λ ctx b. where_inside (any_inside parts b (Known no)) (ended_each ctx parts b (Known yes));
  run = λ ctx b act live g. run_each ctx parts b act live g;
  move = λ ctx b stay go g. move_each ctx parts b stay go g;
  moved = λ ctx b stay go g. moved_each ctx parts b stay go g (Known no);
}

-- the first where the condition holds, the second where it doesn't
abbrev pub choice_mirror : Scene → Expr → Mirror → Mirror → Walk → Mirror
choice_mirror scene condition first second walk = record {
  walk = walk;
  enter = λ ctx m g.
      first.enter ctx m (both g (value_here scene ctx condition)) ++ second.enter ctx m (goes (value_here scene ctx condition) g);
  rests = λ ctx m g.
      either (first.rests ctx m (both g (value_here scene ctx condition))) (second.rests ctx m (goes (value_here scene ctx condition) g));
  inside = λ b. either (first.inside b) (second.inside b);
  ended = λ ctx b. choose_of (first.inside b) (first.ended ctx b) (second.ended ctx b);
  run = λ ctx b act live g.
      first.run ctx b act live (both g (value_here scene ctx condition)) ++ second.run ctx b act live (goes (value_here scene ctx condition) g);
  move = λ ctx b stay go g.
      first.move ctx b stay go (both g (value_here scene ctx condition)) ++ second.move ctx b stay go (goes (value_here scene ctx condition) g);
  moved = λ ctx b stay go g.
      either (first.moved ctx b stay go (both g (value_here scene ctx condition))) (second.moved ctx b stay go (goes (value_here scene ctx condition) g));
}
