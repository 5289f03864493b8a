-- What a statement does as its nets say it, for any bits of its places.
--
-- Starts are the walk's own. A resume reads at which places control rests: members without control are
-- resumed too, and give nothing. The start with mark zero that the statement round it makes, where control
-- was before this statement, goes the same way through the tree, so that both are one walk.
use Rattle.std.specs.Prelude.{ℕ, List, [], ◌∷◌, ◌++◌, map}
use Rattle.qz_values.specs.declared.Know.{Know}
use Rattle.qz_values.specs.declared.Know.TheVariants.{Known}
use Rattle.qz_values.specs.Values.{no}
use Rattle.qz_values.specs.Knowledge.{both, either}
use Rattle.qz_syntax.specs.declared.places.Mark.{Mark}
use Rattle.qz_syntax.specs.declared.places.Mark.TheVariants as mark
use Rattle.qz_meaning.specs.Scenes.{Context, with_locals}
use Rattle.qz_meaning.specs.Layouts.{PlaceBits}
use Rattle.qz_meaning.specs.Behaviors.{Behavior}
use Rattle.qz_meaning.specs.Landings.{Deed, Spot, At}
use Rattle.qz_control.specs.Leaves.{known_bit}
use Rattle.qz_control.specs.Guarded.{Deeds, Guarded, lively, keeps_where}

abbrev pub Walk : Type 0
Walk = Behavior Deed (List Spot)

pub record Mirror : Type 0 where
  pub walk : Walk
  -- where control rests after a start with a mark and a guard, and whether it does anywhere
  pub enter : Context → Mark → Know → Guarded
  pub rests : Context → Mark → Know → Know
  -- whether control rests here, and whether a resume then ends
  pub inside : PlaceBits → Know
  pub ended : Context → PlaceBits → Know
  -- the deeds of a resume with a guard (first), and of a start with mark zero where it is live (second) with a
  -- guard (third)
  pub run : Context → PlaceBits → Know → Know → Know → Deeds
  -- where control rests where it stays (first), goes on (second) or is started with mark zero (third), and
  -- whether it does anywhere
  pub move : Context → PlaceBits → Know → Know → Know → Guarded
  pub moved : Context → PlaceBits → Know → Know → Know → Know

-- a statement in which control never rests
abbrev pub passing_mirror : Walk → Mirror
passing_mirror walk = record {
  walk = walk;
  enter = λ ctx m g. [];
  rests = λ ctx m g. Known no;
  inside = λ b. Known no;
  ended = λ ctx b. Known no;
  run = λ ctx b act live g. lively live (walk.start ctx g mark.Zero);
  move = λ ctx b stay go g. [];
  moved = λ ctx b stay go g. Known no;
}

abbrev pub pause_mirror : ℕ → Walk → Mirror
pause_mirror place walk = record {
  walk = walk;
  enter = λ ctx m g. (At place, g) ∷ [];
  rests = λ ctx m g. g;
  inside = λ b. known_bit (b.place place);
  ended = λ ctx b. known_bit (b.place place);
  run = λ ctx b act live g. [];
  move = λ ctx b stay go g. (At place, either (both (known_bit (b.place place)) stay) g) ∷ [];
  moved = λ ctx b stay go g. either (both (known_bit (b.place place)) stay) g;
}

-- whether control rests in one of these, from whether it does in one before
abbrev pub any_inside : List Mirror → PlaceBits → Know → Know
any_inside [] b so_far = so_far
any_inside (part ∷ parts) b so_far = any_inside parts b (either so_far (part.inside b))

abbrev pub walks : List Mirror → List Walk
walks parts = map (λ (part : Mirror). part.walk) parts

abbrev pub scope_mirror : List ℕ → Mirror → Walk → Mirror
scope_mirror locals body walk = record {
  walk = walk;
  enter = λ ctx m g.
      body.enter (with_locals ctx locals m) m g ++ keeps_where locals m (body.rests (with_locals ctx locals m) m g);
  rests = λ ctx m g. body.rests (with_locals ctx locals m) m g;
  inside = λ b. body.inside b;
  ended = λ ctx b. body.ended (with_locals ctx locals mark.Zero) b;
  run = λ ctx b act live g. body.run (with_locals ctx locals mark.Zero) b act live g;
  move = λ ctx b stay go g.
      body.move (with_locals ctx locals mark.Zero) b stay go g
      ++ keeps_where locals mark.Zero (body.moved (with_locals ctx locals mark.Zero) b stay go g);
  moved = λ ctx b stay go g. body.moved (with_locals ctx locals mark.Zero) b stay go g;
}
