-- Instances and their delayed values settle by the verdicts that the acts come to.
use Rattle.std.proofs.Common.{◌≡◌, ◌<◌, ℕ, false, true, List, length, get_or, Some, sym, ap, subst, ◌∙◌}
use Rattle.std.specs.Prelude.{slice_get, replicate}
use Rattle.std.proofs.lemmas.List.{length-replicate}
use Rattle.std.proofs.lemmas.Option.{slice_get-get_or, slice_get_within, get_or_from_slice_get}
use Rattle.qz_values.specs.declared.Know.{Know}
use Rattle.qz_values.specs.declared.Know.TheVariants.{Unknown}
use Rattle.qz_syntax.specs.declared.places.Later.{Later}
use Rattle.qz_syntax.specs.declared.places.Later.TheVariants as later
use Rattle.qz_meaning.specs.Verdicts.{Verdict}
use Rattle.qz_meaning.specs.Settling.{settled_later}
use Rattle.qz_system.specs.declared.parts.Inst.{Inst}
use Rattle.qz_system.specs.declared.parts.SystemParts.{SystemParts}
use Rattle.qz_system.specs.declared.valuation.Valuation.{Valuation}
use Rattle.qz_system.specs.Writers.{held, with_acts, verdict_of}
use Rattle.qz_system.specs.Rounds.{settles, AreSettled, AreSettledBy}
use Rattle.qz_system.proofs.WriterLemmas.{settled_held, acts_length, acts_from_none}

module _ (parts : SystemParts) (v : Valuation) (know : ℕ → Know) where
  -- the number of an instance is below the count
  below : (count : ℕ) → count ≡ length parts.instances → (n : ℕ) (one : Inst) → slice_get parts.instances n ≡ Some one → n < count
  below count is n one at = rw is (slice_get_within parts.instances n one at)

  pub settled_by : (now : List Know) (first second : List Later) (count again : ℕ)
      → length now ≡ length parts.instances → count ≡ length parts.instances → again ≡ length parts.instances
      → first ≡ with_acts know false (replicate count later.Absent) parts.acts → AreSettled parts v first now
      → second ≡ with_acts know true (replicate again later.Absent) parts.acts
      → AreSettledBy parts v know now second
  settled_by now first second count again now_is count_is again_is first_is settled second_is = record {
    values = λ n one at.
        slice_get-get_or now n Unknown (below (length now) now_is n one at)
        ∙ ap Some (settled n one at
        ∙ ap (λ (verdicts : List Later). settles parts v one (held (get_or verdicts n later.Absent))) first_is
        ∙ ap (settles parts v one) (acts_from_none know false n parts.acts count (below count count_is n one at)));
    laters = λ n one at.
        let within : n < length second = rw (second_is, acts_length know true n parts.acts (replicate again later.Absent), length-replicate again later.Absent)
        (below again again_is n one at) in
        slice_get-get_or second n later.Absent within
        ∙ ap Some (sym (settled_held (get_or second n later.Absent))
        ∙ ap (λ (verdicts : List Later). settled_later (held (get_or verdicts n later.Absent))) second_is
        ∙ ap settled_later (acts_from_none know true n parts.acts again (below again again_is n one at)));
  }

  -- an instance that is read by its number, and the verdict that is
  pub one_settled : (number : ℕ) (instances : List Inst) (verdicts : List Later) (d : Later) (one item : Inst) (k : Know)
      → slice_get parts.instances number ≡ Some one → instances ≡ parts.instances → item ≡ get_or instances number item → number < length verdicts
      → k ≡ settles parts v item (held (get_or verdicts number d)) → k ≡ settles parts v one (held (get_or verdicts number later.Absent))
  one_settled number instances verdicts d one item k at instances_is item_is within is =
      is
      ∙ ap (λ (x : Inst). settles parts v x (held (get_or verdicts number d)))
      (item_is ∙ ap (λ (xs : List Inst). get_or xs number item) instances_is ∙ get_or_from_slice_get parts.instances number one item at)
      ∙ ap (λ (l : Later). settles parts v one (held l))
      (get_or_from_slice_get verdicts number (get_or verdicts number later.Absent) d (slice_get-get_or verdicts number later.Absent within))
