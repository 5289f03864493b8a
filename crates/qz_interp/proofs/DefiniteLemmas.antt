-- Where each instance that is met is definite, nothing is in doubt.
use Rattle.std.proofs.Common.{◌≡◌, ◌<◌, ◌+◌, ℕ, suc, Bool, true, false, List, [], ◌∷◌, length, Option, Some, None, get_or, refl, ap, ap₂, subst, arith}
use Rattle.std.specs.Prelude.{◌==◌, if◌then◌else◌}
use Rattle.std.specs.Option.{option_or, is_some}
use Rattle.std.proofs.lemmas.Bool.{false≢true, eqb-true}
use Rattle.qz_values.specs.declared.Know.{Know}
use Rattle.qz_values.specs.declared.Know.TheVariants as know
use Rattle.qz_syntax.specs.declared.places.Later.{Later}
use Rattle.qz_syntax.specs.declared.places.Later.TheVariants as later
use Rattle.qz_react.specs.declared.environments.Env.{Env}
use Rattle.qz_react.specs.declared.environments.Met.{Met}
use Rattle.qz_interp.specs.declared.doubts.Doubted.{Doubted}
use Rattle.qz_interp.specs.declared.slots.Entry.{Entry}
use Rattle.qz_interp.specs.declared.slots.Entry.TheVariants.{Unmet, New, Kept}
use Rattle.qz_interp.specs.declared.slots.Slot.{Slot}
use Rattle.qz_interp.specs.Entering.{no_slot}
use Rattle.qz_interp.specs.Doubts.{doubted_at, doubted_in, doubted_from, are_definite}
use Rattle.qz_interp.specs.Touching.{is_among, Suits}

module _ (known : List Know) (delayed : List Later) where
  abbrev told : ℕ → Option Doubted
  told k = doubted_at k (get_or known k know.Unknown) (get_or delayed k later.Unknown)

  abbrev told_in : Slot → ℕ → Option Doubted
  told_in slot k = doubted_in slot.entry k (get_or known k know.Unknown) (get_or delayed k later.Unknown)

  none_there : (told : Option Doubted) (rest : Bool) → (if is_some told then false else rest) ≡ true → (told ≡ None) × (rest ≡ true)
  none_there None rest h = (refl, h)
  none_there (Some d) rest h = absurd (false≢true h)

  definite_there : (met : List Met) → are_definite met known delayed ≡ true → (k : ℕ) → is_among met k ≡ true → told k ≡ None
  definite_there [] h k e = absurd (false≢true e)
  definite_there (one ∷ met) h k e = by_same (definite_there met both.1 k) (one.instance == k) refl e where
    both : (told one.instance ≡ None) × (are_definite met known delayed ≡ true)
    both = none_there (told one.instance) (are_definite met known delayed) h

    by_same : (is_among met k ≡ true → told k ≡ None) → (b : Bool) → (one.instance == k) ≡ b → (if b then true else is_among met k) ≡ true → told k ≡ None
    by_same others true is rest = subst (λ n. told n ≡ None) (eqb-true one.instance k is) both.0
    by_same others false is rest = others rest

  none_from : (a : ℕ) (slots : List Slot) → ((k : ℕ) → k < length slots → told_in (get_or slots k no_slot) (a + k) ≡ None)
      → doubted_from a slots known delayed ≡ None
  none_from a [] none = refl
  none_from a (slot ∷ slots) none =
      let here : a + 0 ≡ a = omega arith in
      ap₂ option_or (subst (λ n. told_in slot n ≡ None) here (none 0 (omega arith)))
      (none_from (a + 1) slots (λ k less. let there : a + suc k ≡ (a + 1) + k = omega arith in
      subst (λ n. told_in (get_or slots k no_slot) n ≡ None) there (none (suc k) (omega (arith, less)))))

in_none : (entry : Entry) (k : ℕ) (known : Know) (delayed : Later) → doubted_at k known delayed ≡ None → doubted_in entry k known delayed ≡ None
in_none Unmet k known delayed h = refl
in_none New k known delayed h = h
in_none (Kept store) k known delayed h = h

pub nothing_doubted : (slots : List Slot) (met : List Met) (env : Env) → Suits slots met env → are_definite met env.now.items env.later.items ≡ true
    → doubted_from 0 slots env.now.items env.later.items ≡ None
nothing_doubted slots met env suits definite = none_from env.now.items env.later.items 0 slots each where
  at : (k : ℕ) → told_in env.now.items env.later.items (get_or slots k no_slot) k ≡ None
  at k = by_among (is_among met k) refl where
    by_among : (b : Bool) → is_among met k ≡ b → told_in env.now.items env.later.items (get_or slots k no_slot) k ≡ None
    by_among true e =
        in_none (get_or slots k no_slot).entry k (get_or env.now.items k know.Unknown) (get_or env.later.items k later.Unknown)
        (definite_there env.now.items env.later.items met definite k e)
    by_among false e =
        ap (λ (entry : Entry). doubted_in entry k (get_or env.now.items k know.Unknown) (get_or env.later.items k later.Unknown)) (suits.unmet k e)

  each : (k : ℕ) → k < length slots → told_in env.now.items env.later.items (get_or slots k no_slot) (0 + k) ≡ None
  each k less = let same : k ≡ 0 + k = omega arith in subst (λ n. told_in env.now.items env.later.items (get_or slots k no_slot) n ≡ None) same (at k)
