-- Rounds never fall, they come to an end, and they come to one environment.
use Rattle.std.proofs.Common.{◌≡◌, ℕ, zero, suc, ◌+◌, ◌*◌, ◌<◌, ◌≤◌, List, [], ◌∷◌, length, Option, Some, None, refl, sym, ap, ap₂, subst, ◌∙◌, ◌⊎◌, inl, inr, arith}
use Rattle.std.specs.List.{AllZip, AllByRecursion}
use Rattle.std.proofs.Math.Path.{fun_ext}
use Rattle.std.proofs.lemmas.Bool.{cases_lt, cases_eq}
use Rattle.qz_values.specs.declared.Value.{Value}
use Rattle.qz_values.specs.declared.Know.{Know}
use Rattle.qz_values.specs.declared.Know.TheVariants.{Unknown, Known, Clash}
use Rattle.qz_values.specs.Order.{Below}
use Rattle.qz_values.proofs.Monotone.{Below-self, Below-trans}
use Rattle.qz_syntax.specs.declared.places.Mark.TheVariants as mark
use Rattle.qz_syntax.specs.declared.places.Later.{Later}
use Rattle.qz_syntax.specs.declared.places.Later.TheVariants as later
use Rattle.qz_syntax.specs.declared.places.Residual.{Residual}
use Rattle.qz_syntax.specs.declared.places.Place.{Place}
use Rattle.qz_syntax.specs.declared.places.Place.TheVariants as place
use Rattle.qz_meaning.specs.Instances.{Instance}
use Rattle.qz_meaning.specs.Scenes.{root}
use Rattle.qz_meaning.specs.Accounts.{Write}
use Rattle.qz_meaning.specs.Layouts.{Met}
use Rattle.qz_meaning.specs.Behaviors.{Behavior, idle}
use Rattle.qz_meaning.specs.Residing.{residing}
use Rattle.qz_meaning.specs.Programs.{Program}
use Rattle.qz_meaning.specs.Configurations.{Configuration}
use Rattle.qz_meaning.specs.Settling.{Environment, passing, writes_at, step_writes, step_met, given, met_as}
use Rattle.qz_meaning.specs.Rounds.{now_or_unknown, later_or_unknown, given_or_unknown, first_round, next_round, round, AgreeAt, IsLast, IsLeast}
use Rattle.qz_meaning.specs.Rising.{SceneBelow, ContextBelow, WriteBelow, Rises, LaterBelow, EnvironmentBelow}
use Rattle.qz_meaning.specs.RoundLaws.{HasOneLeast}
use Rattle.qz_meaning.proofs.Rising.{up_idle, walks_rise}
use Rattle.qz_meaning.proofs.Settles.{now_rises, later_rises}
use Rattle.qz_meaning.proofs.Finding.{met_found}

pub later_self : (a : Later) → LaterBelow a a
later_self later.Unknown = tt
later_self later.Absent = tt
later_self (later.Known v) = refl
later_self later.Clash = tt

later_trans : (a b c : Later) → LaterBelow a b → LaterBelow b c → LaterBelow a c
later_trans later.Unknown b c p q = tt
later_trans later.Absent later.Unknown c p q = absurd p
later_trans later.Absent later.Absent c p q = q
later_trans later.Absent (later.Known w) c p q = absurd p
later_trans later.Absent later.Clash later.Unknown p q = absurd q
later_trans later.Absent later.Clash later.Absent p q = absurd q
later_trans later.Absent later.Clash (later.Known x) p q = absurd q
later_trans later.Absent later.Clash later.Clash p q = tt
later_trans (later.Known v) later.Unknown c p q = absurd p
later_trans (later.Known v) later.Absent c p q = absurd p
later_trans (later.Known v) (later.Known w) c p q = subst (λ x. LaterBelow (later.Known x) c) (sym p) q
later_trans (later.Known v) later.Clash later.Unknown p q = absurd q
later_trans (later.Known v) later.Clash later.Absent p q = absurd q
later_trans (later.Known v) later.Clash (later.Known x) p q = absurd q
later_trans (later.Known v) later.Clash later.Clash p q = tt
later_trans later.Clash later.Unknown c p q = absurd p
later_trans later.Clash later.Absent c p q = absurd p
later_trans later.Clash (later.Known w) c p q = absurd p
later_trans later.Clash later.Clash c p q = q

pub environment_trans : (a b c : Environment) → EnvironmentBelow a b → EnvironmentBelow b c → EnvironmentBelow a c
environment_trans a b c p q = record {
  now = λ i. Below-trans _ _ _ (p.now i) (q.now i);
  later = λ i. later_trans _ _ _ (p.later i) (q.later i);
}

root_below : ContextBelow root root
root_below = record { marks = λ n. refl; bound = λ n. refl }

writes_up : (a b : Behavior Write (Option Residual)) (where_it_is : Place) → Rises WriteBelow a b → AllZip WriteBelow (writes_at a where_it_is) (writes_at b where_it_is)
writes_up a b place.NotStarted u = u.start root root (Known _) (Known _) mark.Zero root_below refl
writes_up a b (place.Rest r) u = u.resume root root r (Known _) (Known _) root_below refl
writes_up a b place.Ended u = tt

module _ (p : Program) (c : Configuration) where
  -- the writes of the step rise with the environment
  pub step_rises : (a b : Environment) → SceneBelow a.now b.now → AllZip WriteBelow (step_writes p c a) (step_writes p c b)
  step_rises a b up =
      let listed : (v w : Write) → WriteBelow v w → WriteBelow v w = λ v w h. h in
      writes_up _ _ c.place
      (walks_rise a.now b.now up Write (Option Residual) WriteBelow (residing (passing p a)) (residing (passing p b)) listed
      (λ number arguments. idle (residing (passing p a))) (λ number arguments. idle (residing (passing p b)))
      (λ number arguments. up_idle a.now b.now up Write (Option Residual) WriteBelow (residing (passing p a)) (residing (passing p b)) listed) p.body)

  now_or_up : (ws vs : List Write) (v : Option Value) (one : Option Met) → AllZip WriteBelow ws vs → Below (now_or_unknown p ws v one) (now_or_unknown p vs v one)
  now_or_up ws vs (Some v) one u = refl
  now_or_up ws vs None (Some one) u = now_rises p ws vs one u
  now_or_up ws vs None None u = tt

  later_or_up : (ws vs : List Write) (one : Option Met) → AllZip WriteBelow ws vs → LaterBelow (later_or_unknown ws one) (later_or_unknown vs one)
  later_or_up ws vs (Some one) u = later_rises ws vs one u
  later_or_up ws vs None u = tt

  module _ (row : List Value) where
    -- a round rises with the environment before it
    pub next_rises : (a b : Environment) → SceneBelow a.now b.now → EnvironmentBelow (next_round p c row a) (next_round p c row b)
    next_rises a b up = record {
      now = λ i. now_or_up _ _ (given p row i) (met_as i (step_met p c)) (step_rises a b up);
      later = λ i. later_or_up _ _ (met_as i (step_met p c)) (step_rises a b up);
    }

    first_or_up : (ws : List Write) (v : Option Value) (one : Option Met) → Below (given_or_unknown v) (now_or_unknown p ws v one)
    first_or_up ws (Some v) one = refl
    first_or_up ws None one = tt

    first_below : (env : Environment) → EnvironmentBelow (first_round p row) (next_round p c row env)
    first_below env = record { now = λ i. first_or_up (step_writes p c env) (given p row i) (met_as i (step_met p c)); later = λ i. tt }

    -- knowledge never falls from round to round
    pub rounds_rise : (n : ℕ) → EnvironmentBelow (round p c row n) (round p c row (suc n))
    rounds_rise zero = first_below (first_round p row)
    rounds_rise (suc n) = next_rises (round p c row n) (round p c row (suc n)) (rounds_rise n).now

    -- what a round doesn't raise lies above every round
    pub rounds_below : (env : Environment) → EnvironmentBelow (next_round p c row env) env → (n : ℕ) → EnvironmentBelow (round p c row n) env
    rounds_below env up zero = environment_trans _ _ _ (first_below env) up
    rounds_below env up (suc n) = environment_trans _ _ _ (next_rises (round p c row n) env (rounds_below env up n).now) up

    outside_by : (ws : List Write) (v : Option Value) → now_or_unknown p ws v None ≡ given_or_unknown v
    outside_by ws (Some v) = refl
    outside_by ws None = refl

    -- an instance that isn't met stays as it is at first
    outside : (n : ℕ) (i : Instance) → met_as i (step_met p c) ≡ None → (round p c row n).now i ≡ given_or_unknown (given p row i)
    outside zero i h = refl
    outside (suc n) i h = ap (now_or_unknown p (step_writes p c (round p c row n)) (given p row i)) h ∙ outside_by (step_writes p c (round p c row n)) (given p row i)

    outside_later : (n : ℕ) (i : Instance) → met_as i (step_met p c) ≡ None → (round p c row n).later i ≡ later.Unknown
    outside_later zero i h = refl
    outside_later (suc n) i h = ap (later_or_unknown (step_writes p c (round p c row n))) h

    module _ (n : ℕ) (last : IsLast p c row n) where
      now_stays : (i : Instance) (one : Option Met) → met_as i (step_met p c) ≡ one → (round p c row n).now i ≡ (round p c row (suc n)).now i
      now_stays i None e = outside n i e ∙ sym (outside (suc n) i e)
      now_stays i (Some one) e =
          let found = met_found (λ (one : Met). AgreeAt one (round p c row n) (round p c row (suc n))) (step_met p c) i one last e in
          subst (λ j. (round p c row n).now j ≡ (round p c row (suc n)).now j) found.1 found.0.now

      later_stays : (i : Instance) (one : Option Met) → met_as i (step_met p c) ≡ one → (round p c row n).later i ≡ (round p c row (suc n)).later i
      later_stays i None e = outside_later n i e ∙ sym (outside_later (suc n) i e)
      later_stays i (Some one) e =
          let found = met_found (λ (one : Met). AgreeAt one (round p c row n) (round p c row (suc n))) (step_met p c) i one last e in
          subst (λ j. (round p c row n).later j ≡ (round p c row (suc n)).later j) found.1 found.0.later

      -- the round after the last one is the same everywhere
      pub last_is_fixed : round p c row n ≡ round p c row (suc n)
      last_is_fixed =
          ap₂ (λ (f : Instance → Know) (g : Instance → Later). record { now = f; later = g })
          (fun_ext (λ i. now_stays i (met_as i (step_met p c)) refl)) (fun_ext (λ i. later_stays i (met_as i (step_met p c)) refl))

      -- and so is every later one
      pub rounds_stay : (m : ℕ) → n ≤ m → round p c row m ≡ round p c row n
      rounds_stay zero h = let e : n ≡ 0 = omega arith in ap (round p c row) (sym e)
      rounds_stay (suc m) h = by_order (λ more. rounds_stay m more) (cases_lt m n) where
        by_order : (n ≤ m → round p c row m ≡ round p c row n) → (m < n) ⊎ (n ≤ m) → round p c row (suc m) ≡ round p c row n
        by_order before (inl less) = let e : suc m ≡ n = omega arith in ap (round p c row) e
        by_order before (inr more) = ap (next_round p c row) (before more) ∙ sym last_is_fixed

    last_by : (m n : ℕ) → IsLast p c row m → IsLast p c row n → (m < n) ⊎ (n ≤ m) → round p c row m ≡ round p c row n
    last_by m n h k (inl less) = sym (rounds_stay m h n (omega arith))
    last_by m n h k (inr more) = rounds_stay n k m more

    -- there is no other least environment
    pub one_least : (a b : Environment) → IsLeast p c row a → IsLeast p c row b → a ≡ b
    one_least a b x y = x.is ∙ last_by x.number y.number x.last y.last (cases_lt x.number y.number) ∙ sym y.is

-- how much is known
abbrev height : Know → ℕ
height Unknown = 0
height (Known v) = 1
height Clash = 2

abbrev later_height : Later → ℕ
later_height later.Unknown = 0
later_height later.Absent = 1
later_height (later.Known v) = 1
later_height later.Clash = 2

height_up : (a b : Know) → Below a b → height a ≤ height b
height_up Unknown b p = omega arith
height_up (Known v) Unknown p = absurd p
height_up (Known v) (Known w) p = omega arith
height_up (Known v) Clash p = omega arith
height_up Clash Unknown p = absurd p
height_up Clash (Known w) p = absurd p
height_up Clash Clash p = omega arith

height_most : (a : Know) → height a ≤ 2
height_most Unknown = omega arith
height_most (Known v) = omega arith
height_most Clash = omega arith

same_height : (a b : Know) → Below a b → height a ≡ height b → a ≡ b
same_height Unknown Unknown p h = refl
same_height Unknown (Known w) p h = absurd (omega arith)
same_height Unknown Clash p h = absurd (omega arith)
same_height (Known v) Unknown p h = absurd p
same_height (Known v) (Known w) p h = ap (λ (x : Value). Known x) p
same_height (Known v) Clash p h = absurd (omega arith)
same_height Clash Unknown p h = absurd p
same_height Clash (Known w) p h = absurd p
same_height Clash Clash p h = refl

later_height_up : (a b : Later) → LaterBelow a b → later_height a ≤ later_height b
later_height_up later.Unknown b p = omega arith
later_height_up later.Absent later.Unknown p = absurd p
later_height_up later.Absent later.Absent p = omega arith
later_height_up later.Absent (later.Known w) p = absurd p
later_height_up later.Absent later.Clash p = omega arith
later_height_up (later.Known v) later.Unknown p = absurd p
later_height_up (later.Known v) later.Absent p = absurd p
later_height_up (later.Known v) (later.Known w) p = omega arith
later_height_up (later.Known v) later.Clash p = omega arith
later_height_up later.Clash later.Unknown p = absurd p
later_height_up later.Clash later.Absent p = absurd p
later_height_up later.Clash (later.Known w) p = absurd p
later_height_up later.Clash later.Clash p = omega arith

later_height_most : (a : Later) → later_height a ≤ 2
later_height_most later.Unknown = omega arith
later_height_most later.Absent = omega arith
later_height_most (later.Known v) = omega arith
later_height_most later.Clash = omega arith

same_later_height : (a b : Later) → LaterBelow a b → later_height a ≡ later_height b → a ≡ b
same_later_height later.Unknown later.Unknown p h = refl
same_later_height later.Unknown later.Absent p h = absurd (omega arith)
same_later_height later.Unknown (later.Known w) p h = absurd (omega arith)
same_later_height later.Unknown later.Clash p h = absurd (omega arith)
same_later_height later.Absent later.Unknown p h = absurd p
same_later_height later.Absent later.Absent p h = refl
same_later_height later.Absent (later.Known w) p h = absurd p
same_later_height later.Absent later.Clash p h = absurd (omega arith)
same_later_height (later.Known v) later.Unknown p h = absurd p
same_later_height (later.Known v) later.Absent p h = absurd p
same_later_height (later.Known v) (later.Known w) p h = ap (λ (x : Value). later.Known x) p
same_later_height (later.Known v) later.Clash p h = absurd (omega arith)
same_later_height later.Clash later.Unknown p h = absurd p
same_later_height later.Clash later.Absent p h = absurd p
same_later_height later.Clash (later.Known w) p h = absurd p
same_later_height later.Clash later.Clash p h = refl

-- how much is known of all these
abbrev known_of : Environment → List Met → ℕ
known_of env [] = 0
known_of env (one ∷ met) = (height (env.now one.instance) + later_height (env.later one.instance)) + known_of env met

known_up : (a b : Environment) (met : List Met) → EnvironmentBelow a b → known_of a met ≤ known_of b met
known_up a b [] u = omega arith
known_up a b (one ∷ met) u =
    let x = height_up _ _ (u.now one.instance) in
    let y = later_height_up _ _ (u.later one.instance) in
    let more = known_up a b met u in
    omega (arith, x, y, more)

known_most : (env : Environment) (met : List Met) → known_of env met ≤ 4 * length met
known_most env [] = omega arith
known_most env (one ∷ met) =
    let x = height_most (env.now one.instance) in
    let y = later_height_most (env.later one.instance) in
    let more = known_most env met in
    omega (arith, x, y, more)

-- where no more is known, nothing has changed
agree_all : (a b : Environment) (met : List Met) → EnvironmentBelow a b → known_of a met ≡ known_of b met → AllByRecursion (λ (one : Met). AgreeAt one a b) met
agree_all a b [] u h = tt
agree_all a b (one ∷ met) u h =
    let x = height_up _ _ (u.now one.instance) in
    let y = later_height_up _ _ (u.later one.instance) in
    let more = known_up a b met u in (
      record {
        now = same_height _ _ (u.now one.instance) (omega (arith, x, y, more, h));
        later = same_later_height _ _ (u.later one.instance) (omega (arith, x, y, more, h));
      },
      agree_all a b met u (omega (arith, x, y, more, h)),
    )

-- what never falls and stays below a bound stands still once
stands : (f : ℕ → ℕ) → ((n : ℕ) → f n ≤ f (suc n)) → (k : ℕ) → ((n : ℕ) × (n < k) × (f n ≡ f (suc n))) ⊎ (k ≤ f k)
stands f up zero = inr (omega arith)
stands f up (suc k) = by_before (stands f up k) where
  by_same : k ≤ f k → ((f k ≡ f (suc k)) ⊎ (f k ≡ f (suc k) → ⊥)) → ((n : ℕ) × (n < suc k) × (f n ≡ f (suc n))) ⊎ (suc k ≤ f (suc k))
  by_same h (inl e) = inl (k, omega arith, e)
  by_same h (inr e) = let more = up k in inr (omega (arith, more, h, e))

  by_before : (((n : ℕ) × (n < k) × (f n ≡ f (suc n))) ⊎ (k ≤ f k)) → ((n : ℕ) × (n < suc k) × (f n ≡ f (suc n))) ⊎ (suc k ≤ f (suc k))
  by_before (inl before) = let less = before.1 in inl (before.0, omega (arith, less), before.2)
  by_before (inr h) = by_same h (cases_eq (f k) (f (suc k)))

-- After at most so many rounds nothing changes.
pub rounds_end : (p : Program) (c : Configuration) (row : List Value) → (n : ℕ) × (n ≤ 4 * length (step_met p c)) × IsLast p c row n
rounds_end p c row = by_found (stands f up (suc (4 * length (step_met p c)))) where
  f : ℕ → ℕ
  f n = known_of (round p c row n) (step_met p c)

  up : (n : ℕ) → f n ≤ f (suc n)
  up n = known_up _ _ (step_met p c) (rounds_rise p c row n)

  by_found : (((n : ℕ) × (n < suc (4 * length (step_met p c))) × (f n ≡ f (suc n))) ⊎ (suc (4 * length (step_met p c)) ≤ f (suc (4 * length (step_met p c)))))
      → (n : ℕ) × (n ≤ 4 * length (step_met p c)) × IsLast p c row n
  by_found (inl found) =
      let less = found.1 in
      (found.0, omega (arith, less), agree_all _ _ (step_met p c) (rounds_rise p c row found.0) found.2)
  by_found (inr more) =
      let most = known_most (round p c row (suc (4 * length (step_met p c)))) (step_met p c) in
      absurd (omega (arith, most, more))

environment_self : (a : Environment) → EnvironmentBelow a a
environment_self a = record { now = λ i. Below-self (a.now i); later = λ i. later_self (a.later i) }

pub has_one_least : (p : Program) (c : Configuration) (row : List Value) → HasOneLeast p c row
has_one_least p c row =
    let end = rounds_end p c row in
    let is : IsLeast p c row (round p c row end.0) = record { number = end.0; last = end.2; is = refl } in
    record {
      least = round p c row end.0;
      is_least = is;
      only = λ other it. one_least p c row other (round p c row end.0) it is;
      above = rounds_below p c row (round p c row end.0)
          (subst (λ (it : Environment). EnvironmentBelow it (round p c row end.0)) (last_is_fixed p c row end.0 end.2) (environment_self (round p c row end.0)));
    }
