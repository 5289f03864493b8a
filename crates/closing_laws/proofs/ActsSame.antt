-- The verdict of a system's acts on an instance is that of the writes that they are made of.
use Rattle.std.proofs.Common.{◌≡◌, ℕ, Bool, true, false, List, [], ◌∷◌, map, Some, refl, ap, ◌∙◌}
use Rattle.std.specs.Prelude.{if◌then◌else◌, slice_get}
use Rattle.qz_syntax.specs.declared.modules.Module.{Module}
use Rattle.qz_meaning.specs.Instances.{Instance}
use Rattle.qz_meaning.specs.Programs.{instances_of}
use Rattle.qz_meaning.specs.Verdicts.{Verdict, Nobody, join, is_to, tally, verdict}
use Rattle.qz_control.specs.Circuits.{View}
use Rattle.qz_surface.specs.declared.writes.NetWrite.{NetWrite}
use Rattle.qz_surface.specs.Written.{read_write, read_writes}
use Rattle.qz_system.specs.Writers.{is_to as is_to_instance, verdict_of_act, tally_of, verdict_of}
use Rattle.qz_interp.specs.Numbering.{AreDistinct}
use Rattle.qz_single.specs.Numbering.{act_of}
use Rattle.closing_laws.proofs.Places.{place_test}

module _ (m : Module) (distinct : AreDistinct (instances_of m)) (v : View) (k : ℕ) (i : Instance) (at : slice_get (instances_of m) k ≡ Some i) where
  same_target : (delayed : Bool) (w : NetWrite) → is_to_instance k delayed (act_of m w) ≡ is_to i delayed (read_write v w)
  same_target true w =
      ap (λ t. if w.delayed then t else false) (place_test (instances_of m) distinct k i (record { variable = w.target; mark = w.mark }) at)
  same_target false w =
      ap (λ t. if w.delayed then false else t) (place_test (instances_of m) distinct k i (record { variable = w.target; mark = w.mark }) at)

  same_tally : (delayed : Bool) (ws : List NetWrite) (so_far : Verdict)
      → tally_of v.nets.know k delayed so_far (map (act_of m) ws) ≡ tally i delayed so_far (read_writes v ws)
  same_tally delayed [] so_far = refl
  same_tally delayed (w ∷ ws) so_far =
      ap (λ t. tally_of v.nets.know k delayed (if t then join so_far (verdict_of_act v.nets.know (act_of m w)) else so_far) (map (act_of m) ws)) (same_target delayed w)
      ∙ same_tally delayed ws _

  pub verdicts_same : (delayed : Bool) (ws : List NetWrite) → verdict_of v.nets.know k delayed (map (act_of m) ws) ≡ verdict i delayed (read_writes v ws)
  verdicts_same delayed ws = same_tally delayed ws Nobody
