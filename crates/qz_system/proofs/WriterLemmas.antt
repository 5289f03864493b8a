-- A table of verdicts that are held as delayed values has the verdicts on the instances.
use Rattle.std.proofs.Common.{◌≡◌, ◌≢◌, ◌<◌, ℕ, zero, suc, Bool, true, false, List, [], ◌∷◌, length, get_or, set, refl, sym, ap, subst, ◌∙◌, get_or-set_other, get_or-set_same, arith}
use Rattle.std.specs.Prelude.{if◌then◌else◌, ◌==◌, replicate}
use Rattle.std.proofs.lemmas.Bool.{eqb-true}
use Rattle.std.proofs.lemmas.List.{length-set, length-replicate, get_or-replicate}
use Rattle.qz_values.specs.declared.Know.{Know}
use Rattle.qz_syntax.specs.declared.places.Later.{Later}
use Rattle.qz_syntax.specs.declared.places.Later.TheVariants as later
use Rattle.qz_meaning.specs.Verdicts.{Verdict, Nobody, Open, One, Torn, join}
use Rattle.qz_meaning.specs.Settling.{settled_later}
use Rattle.qz_system.specs.declared.parts.Act.{Act}
use Rattle.qz_system.specs.Writers.{is_to, is_same_kind, verdict_of_act, tally_of, verdict_of, held, with_act, with_acts}

pub held_settled : (v : Verdict) → held (settled_later v) ≡ v
held_settled Nobody = refl
held_settled Open = refl
held_settled (One v) = refl
held_settled Torn = refl

pub settled_held : (l : Later) → settled_later (held l) ≡ l
settled_held later.Unknown = refl
settled_held later.Absent = refl
settled_held (later.Known v) = refl
settled_held later.Clash = refl

module _ (know : ℕ → Know) (d : Bool) (k : ℕ) where
  abbrev here : List Later → Verdict
  here t = held (get_or t k later.Absent)

  length-step : (t : List Later) (act : Act) → length (if is_same_kind d act.delayed then with_act know t act else t) ≡ length t
  length-step t act = by (is_same_kind d act.delayed)
    where
      by : (b : Bool) → length (if b then with_act know t act else t) ≡ length t
      by true = length-set t act.instance (settled_later (join (held (get_or t act.instance later.Absent)) (verdict_of_act know act)))
      by false = refl

  to_kind : (act : Act) → is_to k d act ≡ (if is_same_kind d act.delayed then act.instance == k else false)
  to_kind act = by d act.delayed
    where
      by : (b e : Bool) → is_to k b record { instance = act.instance; delayed = e; guard = act.guard; value = act.value }
          ≡ (if is_same_kind b e then act.instance == k else false)
      by true true = refl
      by true false = refl
      by false true = refl
      by false false = refl

  same_number : (act : Act) (t : List Later) → k < length t → act.instance ≡ k
      → here (with_act know t act) ≡ join (here t) (verdict_of_act know act)
  same_number act t h is =
      subst (λ j. held (get_or (set t j (settled_later (join (held (get_or t j later.Absent)) (verdict_of_act know act)))) k later.Absent)
      ≡ join (here t) (verdict_of_act know act)) (sym is)
      (ap held (get_or-set_same t k (settled_later (join (here t) (verdict_of_act know act))) later.Absent h) ∙ held_settled _)

  other_number : (act : Act) (t : List Later) → k ≢ act.instance → here (with_act know t act) ≡ here t
  other_number act t other = ap held (get_or-set_other t act.instance k _ later.Absent other)

  -- one act changes an instance's verdict as the definition says
  one_act : (act : Act) (t : List Later) → k < length t
      → here (if is_same_kind d act.delayed then with_act know t act else t)
      ≡ (if is_to k d act then join (here t) (verdict_of_act know act) else here t)
  one_act act t h =
      by (is_same_kind d act.delayed) ∙ ap (λ b. if b then join (here t) (verdict_of_act know act) else here t) (sym (to_kind act))
    where
      number : (b : Bool) → (act.instance == k) ≡ b → here (with_act know t act) ≡ (if b then join (here t) (verdict_of_act know act) else here t)
      number true e = same_number act t h (eqb-true act.instance k e)
      number false e = other_number act t (λ is. absurd (grind arith))

      by : (b : Bool) → here (if b then with_act know t act else t)
          ≡ (if (if b then act.instance == k else false) then join (here t) (verdict_of_act know act) else here t)
      by true = number (act.instance == k) refl
      by false = refl

  pub acts_here : (acts : List Act) (t : List Later) → k < length t → here (with_acts know d t acts) ≡ tally_of know k d (here t) acts
  acts_here [] t h = refl
  acts_here (act ∷ acts) t h =
      acts_here acts (if is_same_kind d act.delayed then with_act know t act else t) (subst (λ n. k < n) (sym (length-step t act)) h)
      ∙ ap (λ v. tally_of know k d v acts) (one_act act t h)

  pub acts_length : (acts : List Act) (t : List Later) → length (with_acts know d t acts) ≡ length t
  acts_length [] t = refl
  acts_length (act ∷ acts) t = acts_length acts (if is_same_kind d act.delayed then with_act know t act else t) ∙ length-step t act

  -- from no writer
  pub acts_from_none : (acts : List Act) (count : ℕ) → k < count → here (with_acts know d (replicate count later.Absent) acts) ≡ verdict_of know k d acts
  acts_from_none acts count h =
      acts_here acts (replicate count later.Absent) (subst (λ n. k < n) (sym (length-replicate count later.Absent)) h)
      ∙ ap (λ l. tally_of know k d (held l) acts) (get_or-replicate count k later.Absent later.Absent h)
