-- A start and its nets, where every condition is plain: the guarded spots that hold are where the walk rests.
use Rattle.std.proofs.Common.{◌≡◌, ℕ, Bool, true, false, ◌&&◌, ◌||◌, not, List, [], ◌∷◌, ◌++◌, Some, None, refl, sym, ap, ap₂, ◌∙◌, if◌then◌else◌}
use Rattle.std.proofs.lemmas.Bool.{false≢true}
use Rattle.qz_values.specs.declared.Know.{Know}
use Rattle.qz_values.specs.Knowledge.{both, either, opposite, knows_yes}
use Rattle.qz_syntax.specs.declared.expressions.Expr.{Expr}
use Rattle.qz_syntax.specs.declared.statements.Kind.{Kind}
use Rattle.qz_syntax.specs.declared.places.Mark.{Mark}
use Rattle.qz_meaning.specs.Scenes.{Scene, Context, with_locals}
use Rattle.qz_meaning.specs.Expressions.{value_here}
use Rattle.qz_meaning.specs.Simple.{pause}
use Rattle.qz_meaning.specs.Choices.{choice}
use Rattle.qz_meaning.specs.Loops.{loop}
use Rattle.qz_meaning.specs.Aborts.{abort}
use Rattle.qz_meaning.specs.Suspends.{suspend}
use Rattle.qz_meaning.specs.Scopes.{scope}
use Rattle.qz_meaning.specs.Landings.{Spot, At, keeps, scoped, landing}
use Rattle.qz_meaning.specs.Carrying.{is_somewhere}
use Rattle.qz_control.specs.Leaves.{known_bit}
use Rattle.qz_control.specs.Guarded.{Guarded, chosen, keeps_where, when, goes}
use Rattle.qz_control.specs.Mirrors.{Walk, Mirror, passing_mirror, pause_mirror, scope_mirror}
use Rattle.qz_control.specs.MemberMirrors.{choice_mirror}
use Rattle.qz_control.specs.BodyMirrors.{loop_mirror, abort_mirror, suspend_mirror, hold_mirror}
use Rattle.qz_control.specs.Follows.{Starting}
use Rattle.qz_control.proofs.Bits.{both_known, either_known, opposite_known, knows_known, bit_from, or_false, append-none, when_none, chosen_both, chosen_keeps}

none_known : (g : Bool) → known_bit false ≡ known_bit (g && false)
none_known true = refl
none_known false = refl

pub starting_passing : (walk : Walk) → ((ctx : Context) (m : Mark) → walk.ends ctx m ≡ known_bit true) → ((ctx : Context) (m : Mark) → walk.rest ctx m ≡ [])
    → Starting (passing_mirror walk)
starting_passing walk ends rest = record {
  plain = λ ctx m. (true, ends ctx m);
  gone = λ ctx m h. rest ctx m;
  enters = λ ctx m g. sym (when_none g) ∙ ap (when g) (sym (rest ctx m));
  rests = λ ctx m g. none_known g ∙ ap (λ xs. known_bit (g && is_somewhere xs)) (sym (rest ctx m));
}

pub starting_pause : (place : ℕ) → Starting (pause_mirror place (pause landing place))
starting_pause place = record {
  plain = λ ctx m. (false, refl);
  gone = λ ctx m h. absurd (false≢true (bit_from false true h));
  enters = λ ctx m g. at g;
  rests = λ ctx m g. here g;
}
  where
    at : (g : Bool) → chosen ((At place, known_bit g) ∷ []) ≡ when g (At place ∷ [])
    at true = refl
    at false = refl

    here : (g : Bool) → known_bit g ≡ known_bit (g && true)
    here true = refl
    here false = refl

pub starting_loop : (scene : Scene) (number : ℕ) (condition : Expr) (body : Mirror) → Starting body
    → Starting (loop_mirror scene number body condition (loop scene landing number body.walk condition))
starting_loop scene number condition body h = record {
  plain = λ ctx m. (false, refl);
  gone = λ ctx m e. absurd (false≢true (bit_from false true e));
  enters = λ ctx m g. h.enters ctx m g;
  rests = λ ctx m g. h.rests ctx m g;
}

pub scoped_somewhere : (locals : List ℕ) (m : Mark) (xs : List Spot) → is_somewhere (scoped locals m xs) ≡ is_somewhere xs
scoped_somewhere locals m [] = refl
scoped_somewhere locals m (x ∷ xs) = refl

pub scoped_when : (locals : List ℕ) (m : Mark) (g : Bool) (xs : List Spot) → when g xs ++ when (g && is_somewhere xs) (keeps locals m) ≡ when g (scoped locals m xs)
scoped_when locals m true [] = refl
scoped_when locals m true (x ∷ xs) = refl
scoped_when locals m false xs = refl

pub starting_scope : (locals : List ℕ) (body : Mirror) → Starting body → Starting (scope_mirror locals body (scope landing locals body.walk))
starting_scope locals body h = record {
  plain = λ ctx m. h.plain (with_locals ctx locals m) m;
  gone = λ ctx m e. ap (scoped locals m) (h.gone (with_locals ctx locals m) m e);
  enters = λ ctx m g.
      let c = with_locals ctx locals m in
      chosen_both (body.enter c m (known_bit g)) (keeps_where locals m (body.rests c m (known_bit g))) _ _ (h.enters c m g)
      (ap (λ k. chosen (keeps_where locals m k)) (h.rests c m g) ∙ chosen_keeps locals m (g && is_somewhere (body.walk.rest c m)))
      ∙ scoped_when locals m g (body.walk.rest c m);
  rests = λ ctx m g.
      let c = with_locals ctx locals m in
      h.rests c m g ∙ ap (λ b. known_bit (g && b)) (sym (scoped_somewhere locals m (body.walk.rest c m)));
}

-- guards where the condition is plain
pub and_plain : (g c : Bool) (k : Know) → k ≡ known_bit c → both (known_bit g) k ≡ known_bit (g && c)
and_plain g c k is = ap (both (known_bit g)) is ∙ both_known g c

pub goes_plain : (g c : Bool) (k : Know) → k ≡ known_bit c → goes k (known_bit g) ≡ known_bit (g && not c)
goes_plain g c k is = ap (λ x. goes x (known_bit g)) is ∙ ap (both (known_bit g)) (opposite_known c) ∙ both_known g (not c)

pub if_plain : {A : Type 0} (c : Bool) (k : Know) (x y : A) → k ≡ known_bit c → (if knows_yes k then x else y) ≡ (if c then x else y)
if_plain c k x y is = ap (λ b. if b then x else y) (ap knows_yes is ∙ knows_known c)

pub when_picked : (g c : Bool) (xs ys : List Spot) → when (g && c) xs ++ when (g && not c) ys ≡ when g (if c then xs else ys)
when_picked true true xs ys = append-none xs
when_picked true false xs ys = refl
when_picked false c xs ys = refl

pub somewhere_picked : (g c : Bool) (xs ys : List Spot)
    → (((g && c) && is_somewhere xs) || ((g && not c) && is_somewhere ys)) ≡ (g && is_somewhere (if c then xs else ys))
somewhere_picked true true xs ys = or_false (is_somewhere xs)
somewhere_picked true false xs ys = refl
somewhere_picked false c xs ys = refl

pub when_left : (g c : Bool) (xs : List Spot) → when (g && not c) xs ≡ when g (if c then [] else xs)
when_left true true xs = refl
when_left true false xs = refl
when_left false c xs = refl

pub somewhere_left : (g c : Bool) (xs : List Spot) → ((g && not c) && is_somewhere xs) ≡ (g && is_somewhere (if c then [] else xs))
somewhere_left true true xs = refl
somewhere_left true false xs = refl
somewhere_left false c xs = refl

pub left_gone : (c e : Bool) (xs : List Spot) → (c || e) ≡ true → (e ≡ true → xs ≡ []) → (if c then [] else xs) ≡ []
left_gone true e xs h none = refl
left_gone false e xs h none = none h

module _ (scene : Scene) (condition : Expr) (plain : (ctx : Context) → (b : Bool) × (value_here scene ctx condition ≡ known_bit b)) where
  chosen_plain : (c x y : Bool) (k e f : Know) → k ≡ known_bit c → e ≡ known_bit x → f ≡ known_bit y
      → either (both k e) (both (opposite k) f) ≡ known_bit ((c && x) || (not c && y))
  chosen_plain c x y k e f p q r =
      ap₂ (λ i j. either (both i j) (both (opposite i) f)) p q
      ∙ ap₂ (λ i j. either i j) (both_known c x) (ap₂ (λ i j. both i j) (opposite_known c) r ∙ both_known (not c) y)
      ∙ either_known (c && x) (not c && y)

  chosen_gone : (c x y : Bool) (xs ys : List Spot) → ((c && x) || (not c && y)) ≡ true → (x ≡ true → xs ≡ []) → (y ≡ true → ys ≡ []) → (if c then xs else ys) ≡ []
  chosen_gone true x y xs ys h p q = p (sym (or_false x) ∙ h)
  chosen_gone false x y xs ys h p q = q h

  pub starting_choice : (first second : Mirror) → Starting first → Starting second
      → Starting (choice_mirror scene condition first second (choice scene landing condition first.walk second.walk))
  starting_choice first second h k = record {
    plain = λ ctx m.
        let c = plain ctx in
        let x = h.plain ctx m in
        let y = k.plain ctx m in
        ((c.0 && x.0) || (not c.0 && y.0), chosen_plain c.0 x.0 y.0 _ _ _ c.1 x.1 y.1);
    gone = λ ctx m is.
        let c = plain ctx in
        let x = h.plain ctx m in
        let y = k.plain ctx m in
        if_plain c.0 _ (first.walk.rest ctx m) (second.walk.rest ctx m) c.1
        ∙ chosen_gone c.0 x.0 y.0 _ _ (bit_from _ _ (sym (chosen_plain c.0 x.0 y.0 _ _ _ c.1 x.1 y.1) ∙ is))
        (λ so. h.gone ctx m (x.1 ∙ ap known_bit so)) (λ so. k.gone ctx m (y.1 ∙ ap known_bit so));
    enters = λ ctx m g.
        let c = plain ctx in
        chosen_both (first.enter ctx m (both (known_bit g) (value_here scene ctx condition))) (second.enter ctx m (goes (value_here scene ctx condition) (known_bit g))) _ _
        (ap (λ i. chosen (first.enter ctx m i)) (and_plain g c.0 _ c.1) ∙ h.enters ctx m (g && c.0))
        (ap (λ i. chosen (second.enter ctx m i)) (goes_plain g c.0 _ c.1) ∙ k.enters ctx m (g && not c.0))
        ∙ when_picked g c.0 _ _ ∙ ap (when g) (sym (if_plain c.0 _ (first.walk.rest ctx m) (second.walk.rest ctx m) c.1));
    rests = λ ctx m g.
        let c = plain ctx in
        ap₂ (λ i j. either i j)
        (ap (λ i. first.rests ctx m i) (and_plain g c.0 _ c.1) ∙ h.rests ctx m (g && c.0))
        (ap (λ i. second.rests ctx m i) (goes_plain g c.0 _ c.1) ∙ k.rests ctx m (g && not c.0))
        ∙ either_known ((g && c.0) && is_somewhere (first.walk.rest ctx m)) ((g && not c.0) && is_somewhere (second.walk.rest ctx m))
        ∙ ap known_bit (somewhere_picked g c.0 _ _)
        ∙ ap (λ xs. known_bit (g && is_somewhere xs)) (sym (if_plain c.0 _ (first.walk.rest ctx m) (second.walk.rest ctx m) c.1));
  }

  module _ (body : Mirror) (h : Starting body) where
    -- preemptions that aren't immediate
    pub starting_abort_later : (weak : Bool)
        → let kind : Kind = record { weak = weak; immediate = false } in
        Starting (abort_mirror scene kind body condition (abort scene landing kind body.walk condition))
    starting_abort_later weak = record {
      plain = λ ctx m. h.plain ctx m;
      gone = λ ctx m e. h.gone ctx m e;
      enters = λ ctx m g. h.enters ctx m g;
      rests = λ ctx m g. h.rests ctx m g;
    }

    pub starting_later : (weak : Bool)
        → let kind : Kind = record { weak = weak; immediate = false } in
        Starting (suspend_mirror scene kind body condition (suspend scene landing kind None body.walk condition))
    starting_later weak = record {
      plain = λ ctx m. h.plain ctx m;
      gone = λ ctx m e. h.gone ctx m e;
      enters = λ ctx m g. h.enters ctx m g;
      rests = λ ctx m g. h.rests ctx m g;
    }

    -- immediate ones
    pub starting_abort_now : (weak : Bool)
        → let kind : Kind = record { weak = weak; immediate = true } in
        Starting (abort_mirror scene kind body condition (abort scene landing kind body.walk condition))
    starting_abort_now weak = record {
      plain = λ ctx m.
          let c = plain ctx in
          let e = h.plain ctx m in
          (c.0 || e.0, ap₂ (λ i j. either i j) c.1 e.1 ∙ either_known c.0 e.0);
      gone = λ ctx m is.
          let c = plain ctx in
          let e = h.plain ctx m in
          if_plain c.0 _ [] (body.walk.rest ctx m) c.1
          ∙ left_gone c.0 e.0 _ (bit_from _ _ (sym (ap₂ (λ i j. either i j) c.1 e.1 ∙ either_known c.0 e.0) ∙ is)) (λ so. h.gone ctx m (e.1 ∙ ap known_bit so));
      enters = λ ctx m g.
          let c = plain ctx in
          ap (λ i. chosen (body.enter ctx m i)) (goes_plain g c.0 _ c.1) ∙ h.enters ctx m (g && not c.0)
          ∙ when_left g c.0 _ ∙ ap (when g) (sym (if_plain c.0 _ [] (body.walk.rest ctx m) c.1));
      rests = λ ctx m g.
          let c = plain ctx in
          ap (λ i. body.rests ctx m i) (goes_plain g c.0 _ c.1) ∙ h.rests ctx m (g && not c.0)
          ∙ ap known_bit (somewhere_left g c.0 _) ∙ ap (λ xs. known_bit (g && is_somewhere xs)) (sym (if_plain c.0 _ [] (body.walk.rest ctx m) c.1));
    }

    hold_plain : (c e : Bool) (x y : Know) → x ≡ known_bit c → y ≡ known_bit e → both (opposite x) y ≡ known_bit (not c && e)
    hold_plain c e x y p q = ap₂ (λ i j. both (opposite i) j) p q ∙ ap (λ i. both i (known_bit e)) (opposite_known c) ∙ both_known (not c) e

    hold_gone : (c e : Bool) (place : ℕ) (xs : List Spot) → (not c && e) ≡ true → (e ≡ true → xs ≡ []) → (if c then At place ∷ [] else xs) ≡ []
    hold_gone true e place xs h none = absurd (false≢true h)
    hold_gone false e place xs h none = none h

    hold_enters : (g c : Bool) (place : ℕ) (f : Know → Guarded) (xs : List Spot) → ((g : Bool) → chosen (f (known_bit g)) ≡ when g xs)
        → chosen ((At place, both (known_bit g) (known_bit c)) ∷ f (goes (known_bit c) (known_bit g))) ≡ when g (if c then At place ∷ [] else xs)
    hold_enters true true place f xs h = ap (λ i. At place ∷ i) (h false)
    hold_enters true false place f xs h = h true
    hold_enters false true place f xs h = h false
    hold_enters false false place f xs h = h false

    hold_rests : (g c : Bool) (place : ℕ) (f : Know → Know) (xs : List Spot) → ((g : Bool) → f (known_bit g) ≡ known_bit (g && is_somewhere xs))
        → either (both (known_bit g) (known_bit c)) (f (goes (known_bit c) (known_bit g))) ≡ known_bit (g && is_somewhere (if c then At place ∷ [] else xs))
    hold_rests true true place f xs h = ap (λ i. either (known_bit true) i) (h false)
    hold_rests true false place f xs h = ap (λ i. either (known_bit false) i) (h true) ∙ either_known false (is_somewhere xs)
    hold_rests false true place f xs h = ap (λ i. either (known_bit false) i) (h false)
    hold_rests false false place f xs h = ap (λ i. either (known_bit false) i) (h false)

    pub starting_held : (weak : Bool) (place : ℕ)
        → let kind : Kind = record { weak = weak; immediate = true } in
        Starting (hold_mirror scene kind place body condition (suspend scene landing kind (Some place) body.walk condition))
    starting_held weak place = record {
      plain = λ ctx m.
          let c = plain ctx in
          let e = h.plain ctx m in
          (not c.0 && e.0, hold_plain c.0 e.0 _ _ c.1 e.1);
      gone = λ ctx m is.
          let c = plain ctx in
          let e = h.plain ctx m in
          if_plain c.0 _ (At place ∷ []) (body.walk.rest ctx m) c.1
          ∙ hold_gone c.0 e.0 place (body.walk.rest ctx m) (bit_from _ _ (sym (hold_plain c.0 e.0 _ _ c.1 e.1) ∙ is))
          (λ so. h.gone ctx m (e.1 ∙ ap known_bit so));
      enters = λ ctx m g.
          let c = plain ctx in
          ap (λ k. chosen ((At place, both (known_bit g) k) ∷ body.enter ctx m (goes k (known_bit g)))) c.1
          ∙ hold_enters g c.0 place (body.enter ctx m) (body.walk.rest ctx m) (h.enters ctx m)
          ∙ ap (when g) (sym (if_plain c.0 _ (At place ∷ []) (body.walk.rest ctx m) c.1));
      rests = λ ctx m g.
          let c = plain ctx in
          ap (λ k. either (both (known_bit g) k) (body.rests ctx m (goes k (known_bit g)))) c.1
          ∙ hold_rests g c.0 place (body.rests ctx m) (body.walk.rest ctx m) (h.rests ctx m)
          ∙ ap (λ xs. known_bit (g && is_somewhere xs)) (sym (if_plain c.0 _ (At place ∷ []) (body.walk.rest ctx m) c.1));
    }
