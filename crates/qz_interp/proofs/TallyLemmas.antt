-- A table of verdicts by number has the verdicts on the instances.
use Rattle.std.proofs.Common.{◌≡◌, ◌≢◌, ◌<◌, ℕ, Bool, true, false, List, [], ◌∷◌, map, length, Option, Some, None, get_or, refl, sym, ap, subst, ◌∙◌, get_or-set_other, get_or-set_same}
use Rattle.std.specs.Prelude.{if◌then◌else◌, slice_get}
use Rattle.std.specs.Option.{option_map}
use Rattle.std.proofs.lemmas.List.{length-set}
use Rattle.std.proofs.lemmas.Option.{slice_get-get_or}
use Rattle.std.proofs.lemmas.Bool.{false≢true}
use Rattle.qz_meaning.specs.Instances.{Instance, is_same_instance}
use Rattle.qz_meaning.specs.Accounts.{Write}
use Rattle.qz_meaning.specs.Verdicts.{Verdict, Nobody, join, is_to, tally, verdict_of_one}
use Rattle.qz_meaning.proofs.Lists.{none≢some, some_same}
use Rattle.qz_meaning.proofs.Orderly.{instance_self}
use Rattle.qz_interp.specs.Numbering.{AreDistinct}
use Rattle.qz_interp.specs.Tallying.{Numbered, written, with_one, is_same_kind, with_write, tallied, TalliesAreVerdicts}

-- what is read off one write that has a number
record Reads (instances : List Instance) (n : Numbered) (w : Write) : Type 0 where
  pub target : slice_get instances n.number ≡ Some w.target
  pub delayed : n.delayed ≡ w.delayed
  pub verdict : verdict_of_one n.guard n.value ≡ verdict_of_one w.guard w.value

reads : (instances : List Instance) (n : Numbered) (w : Write) → written instances n ≡ Some w → Reads instances n w
reads instances n w h = by_found (slice_get instances n.number) refl h where
  by_found : (found : Option Instance) → slice_get instances n.number ≡ found
      → option_map (λ i. record { target = i; delayed = n.delayed; guard = n.guard; value = n.value }) found ≡ Some w → Reads instances n w
  by_found None e k = absurd (none≢some w k)
  by_found (Some i) e k =
      let is = some_same record { target = i; delayed = n.delayed; guard = n.guard; value = n.value } w k in
      record {
        target = e ∙ ap (λ (u : Write). Some u.target) is;
        delayed = ap (λ (u : Write). u.delayed) is;
        verdict = ap (λ (u : Write). verdict_of_one u.guard u.value) is;
      }

length-with_write : (d : Bool) (t : List Verdict) (n : Numbered) → length (with_write d t n) ≡ length t
length-with_write d t n = by_kind (is_same_kind d n.delayed) where
  by_kind : (b : Bool) → length (if b then with_one t n.number (verdict_of_one n.guard n.value) else t) ≡ length t
  by_kind true = length-set t n.number (join (get_or t n.number Nobody) (verdict_of_one n.guard n.value))
  by_kind false = refl

-- whether a write is to an instance, now or delayed
to_kind : (i : Instance) (d : Bool) (w : Write) → is_to i d w ≡ (if is_same_kind d w.delayed then is_same_instance w.target i else false)
to_kind i true w = refl
to_kind i false w = by_delayed w.delayed where
  by_delayed : (b : Bool) → (if b then false else is_same_instance w.target i) ≡ (if is_same_kind false b then is_same_instance w.target i else false)
  by_delayed true = refl
  by_delayed false = refl

module _ (instances : List Instance) (distinct : AreDistinct instances) (d : Bool) (k : ℕ) (i : Instance) (at_k : slice_get instances k ≡ Some i) where
  abbrev after : List Verdict → Write → Verdict
  after t w = join (get_or t k Nobody) (verdict_of_one w.guard w.value)

  abbrev before : List Verdict → Verdict
  before t = get_or t k Nobody

  -- one write changes an instance's verdict as the definition says
  one_write : (n : Numbered) (w : Write) → Reads instances n w → (t : List Verdict) → k < length t
      → get_or (with_write d t n) k Nobody ≡ (if is_to i d w then join (get_or t k Nobody) (verdict_of_one w.guard w.value) else get_or t k Nobody)
  one_write n w r t h =
      by_kind (is_same_kind d n.delayed)
      ∙ ap (λ b. if (if b then is_same_instance w.target i else false) then after t w else before t) (ap (is_same_kind d) r.delayed)
      ∙ ap (λ b. if b then after t w else before t) (sym (to_kind i d w))
    where
      here : (same : Bool) → is_same_instance w.target i ≡ same
          → get_or (with_one t n.number (verdict_of_one n.guard n.value)) k Nobody ≡ (if same then after t w else before t)
      here true e =
          let is : n.number ≡ k = distinct n.number k w.target i r.target at_k e in
          subst (λ j. get_or (with_one t j (verdict_of_one n.guard n.value)) k Nobody ≡ after t w) (sym is)
          (get_or-set_same t k (join (get_or t k Nobody) (verdict_of_one n.guard n.value)) Nobody h ∙ ap (join (get_or t k Nobody)) r.verdict)
      here false e =
          let other : k ≢ n.number = λ is.
          let same : w.target ≡ i = some_same w.target i (sym r.target ∙ ap (slice_get instances) (sym is) ∙ at_k) in
          false≢true (sym e ∙ ap (λ j. is_same_instance j i) same ∙ instance_self i) in
          get_or-set_other t n.number k (join (get_or t n.number Nobody) (verdict_of_one n.guard n.value)) Nobody other

      by_kind : (b : Bool) → get_or (if b then with_one t n.number (verdict_of_one n.guard n.value) else t) k Nobody
          ≡ (if (if b then is_same_instance w.target i else false) then after t w else before t)
      by_kind true = here (is_same_instance w.target i) refl
      by_kind false = refl

  tallied_here : (ns : List Numbered) (ws : List Write) → map (written instances) ns ≡ map Some ws → (t : List Verdict) → k < length t
      → slice_get (tallied d t ns) k ≡ Some (tally i d (get_or t k Nobody) ws)
  tallied_here [] [] e t h = slice_get-get_or t k Nobody h
  tallied_here [] (w ∷ ws) e t h = cc
  tallied_here (n ∷ ns) [] e t h = cc
  tallied_here (n ∷ ns) (w ∷ ws) e t h =
      let r = reads instances n w (head_same (written instances n) (Some w) (map (written instances) ns) (map Some ws) e) in
      let within : k < length (with_write d t n) = subst (λ m. k < m) (sym (length-with_write d t n)) h in
      tallied_here ns ws (tail_same (written instances n) (Some w) (map (written instances) ns) (map Some ws) e) (with_write d t n) within
      ∙ ap (λ v. Some (tally i d v ws)) (one_write n w r t h)
    where
      head_same : (x y : Option Write) (xs ys : List (Option Write)) → x ∷ xs ≡ y ∷ ys → x ≡ y
      head_same x y xs ys h = cc

      tail_same : (x y : Option Write) (xs ys : List (Option Write)) → x ∷ xs ≡ y ∷ ys → xs ≡ ys
      tail_same x y xs ys h = cc

pub tallies_are_verdicts : TalliesAreVerdicts
tallies_are_verdicts instances distinct d ns ws e t k i at_k h = tallied_here instances distinct d k i at_k ns ws e t h
