-- What a verdict says of the writes that it is of.
use Rattle.std.proofs.Common.{◌≡◌, ◌≢◌, ◌⊎◌, inl, inr, Bool, true, false, List, [], ◌∷◌, refl, sym, ap, ◌∙◌, subst, if◌then◌else◌}
use Rattle.std.specs.Prelude.{IsTrue}
use Rattle.std.specs.List.{AllByRecursion}
use Rattle.qz_values.specs.declared.Value.{Value}
use Rattle.qz_values.specs.declared.Know.{Know}
use Rattle.qz_values.specs.declared.Know.TheVariants.{Unknown, Known, Clash}
use Rattle.qz_values.specs.Values.{is_yes}
use Rattle.qz_values.specs.Knowledge.{knows_yes}
use Rattle.qz_meaning.specs.Instances.{Instance}
use Rattle.qz_meaning.specs.Accounts.{Write}
use Rattle.qz_meaning.specs.Verdicts.{Verdict, Nobody, Open, One, Torn, is_same_value, enabled, verdict_of_one, join, is_to, tally, verdict}
use Rattle.qz_meaning.specs.VerdictLaws.{writes_to, IsIdle, IsTorn, SomeWrite, IsGiven, NoLineHolds, IsByLines}
use Rattle.qz_meaning.proofs.JoinLemmas.{same-is_same_value, is_same_value-self, tally-join}

-- where T says that some write is torn, G which values are given, and A that all writes are idle
abbrev Contradictory : Type 0 → (Value → Type 0) → Type 0
Contradictory T G = T ⊎ ((v : Value) × ((w : Value) × (G v × G w × (v ≢ w))))

abbrev Says : Type 0 → (Value → Type 0) → Type 0 → Verdict → Type 0
Says T G A Nobody = (T → ⊥) × ((u : Value) → G u → ⊥) × A
Says T G A Open = (T → ⊥) × ((u : Value) → G u → ⊥) × (A → ⊥)
Says T G A (One v) = (T → ⊥) × G v × ((u : Value) → G u → u ≡ v) × (A → ⊥)
Says T G A Torn = Contradictory T G × (A → ⊥)

in_either : {A B C : Type 0} → (A → C) → (B → C) → A ⊎ B → C
in_either f g (inl a) = f a
in_either f g (inr b) = g b

module _ (T : Type 0) (G : Value → Type 0) (A : Type 0) (S : Type 0) (H : Value → Type 0) (B : Type 0) where
  of_first : Contradictory T G → Contradictory (T ⊎ S) (λ u. G u ⊎ H u)
  of_first (inl t) = inl (inl t)
  of_first (inr (v, (w, (gv, gw, differ)))) = inr (v, (w, (inl gv, inl gw, differ)))

  of_second : Contradictory S H → Contradictory (T ⊎ S) (λ u. G u ⊎ H u)
  of_second (inl t) = inl (inr t)
  of_second (inr (v, (w, (hv, hw, differ)))) = inr (v, (w, (inr hv, inr hw, differ)))

  two_values : (v w : Value) (b : Bool) → is_same_value v w ≡ b → Says T G A (One v) → Says S H B (One w)
      → Says (T ⊎ S) (λ u. G u ⊎ H u) (A × B) (if b then One v else Torn)
  two_values v w true same a b = (
    in_either a.0 b.0,
    inl a.1,
    (λ u. in_either (a.2 u) (λ h. b.2 u h ∙ sym (same-is_same_value v w same))),
    (λ all. a.3 all.0),
  )
  two_values v w false other a b = (
    inr (v, (w, (inl a.1, inr b.1, λ e. let self = is_same_value-self v in let same : is_same_value v w ≡ true = ap (is_same_value v) (sym e) ∙ self in cc))),
    (λ all. a.3 all.0),
  )

  -- what two verdicts say, their join says of both
  says_both : (j k : Verdict) → Says T G A j → Says S H B k → Says (T ⊎ S) (λ u. G u ⊎ H u) (A × B) (join j k)
  says_both Nobody Nobody a b = (in_either a.0 b.0, (λ u. in_either (a.1 u) (b.1 u)), (a.2, b.2))
  says_both Nobody Open a b = (in_either a.0 b.0, (λ u. in_either (a.1 u) (b.1 u)), (λ all. b.2 all.1))
  says_both Nobody (One v) a b =
      (in_either a.0 b.0, inr b.1, (λ u. in_either (λ g. absurd (a.1 u g)) (b.2 u)), (λ all. b.3 all.1))
  says_both Nobody Torn a b = (of_second b.0, (λ all. b.1 all.1))
  says_both Open Nobody a b = (in_either a.0 b.0, (λ u. in_either (a.1 u) (b.1 u)), (λ all. a.2 all.0))
  says_both Open Open a b = (in_either a.0 b.0, (λ u. in_either (a.1 u) (b.1 u)), (λ all. a.2 all.0))
  says_both Open (One v) a b =
      (in_either a.0 b.0, inr b.1, (λ u. in_either (λ g. absurd (a.1 u g)) (b.2 u)), (λ all. a.2 all.0))
  says_both Open Torn a b = (of_second b.0, (λ all. b.1 all.1))
  says_both (One v) Nobody a b =
      (in_either a.0 b.0, inl a.1, (λ u. in_either (a.2 u) (λ h. absurd (b.1 u h))), (λ all. a.3 all.0))
  says_both (One v) Open a b =
      (in_either a.0 b.0, inl a.1, (λ u. in_either (a.2 u) (λ h. absurd (b.1 u h))), (λ all. a.3 all.0))
  says_both (One v) (One w) a b = two_values v w (is_same_value v w) refl a b
  says_both (One v) Torn a b = (of_second b.0, (λ all. b.1 all.1))
  says_both Torn k a b = (of_first a.0, (λ all. a.1 all.0))
  -- what follows from what a verdict says

module _ (T : Type 0) (G : Value → Type 0) (A : Type 0) where
  torn_only : (k : Verdict) → Says T G A k → Contradictory T G → k ≡ Torn
  torn_only Nobody s c = absurd (in_either s.0 (λ two. s.1 two.0 two.1.1.0) c)
  torn_only Open s c = absurd (in_either s.0 (λ two. s.1 two.0 two.1.1.0) c)
  torn_only (One v) s c =
      absurd (in_either s.0 (λ two. two.1.1.2 (s.2 two.0 two.1.1.0 ∙ sym (s.2 two.1.0 two.1.1.1))) c)
  torn_only Torn s c = refl

  one_only : (k : Verdict) (v : Value) → Says T G A k → (Contradictory T G → ⊥) → G v → k ≡ One v
  one_only Nobody v s agree g = absurd (s.1 v g)
  one_only Open v s agree g = absurd (s.1 v g)
  one_only (One u) v s agree g = ap One (sym (s.2 v g))
  one_only Torn v s agree g = absurd (agree s.0)

  nobody_only : (k : Verdict) → Says T G A k → A → k ≡ Nobody
  nobody_only Nobody s a = refl
  nobody_only Open s a = absurd (s.2 a)
  nobody_only (One u) s a = absurd (s.3 a)
  nobody_only Torn s a = absurd (s.1 a)

  open_only : (k : Verdict) → Says T G A k → (Contradictory T G → ⊥) → ((v : Value) → G v → ⊥) → (A → ⊥) → k ≡ Open
  open_only Nobody s agree none some = absurd (some s.2)
  open_only Open s agree none some = refl
  open_only (One v) s agree none some = absurd (none v s.1)
  open_only Torn s agree none some = absurd (agree s.0)

  agrees_open : Says T G A Open → Contradictory T G → ⊥
  agrees_open s = in_either s.0 (λ two. s.1 two.0 two.1.1.0)

  one_is : (v : Value) → Says T G A (One v) → (Contradictory T G → ⊥) × G v
  one_is v s = (in_either s.0 (λ two. two.1.1.2 (s.2 two.0 two.1.1.0 ∙ sym (s.2 two.1.0 two.1.1.1))), s.1)

-- one writer with these two
abbrev Tears : Know → Know → Type 0
Tears g v = (g ≡ Clash) ⊎ (IsTrue (knows_yes g) × (v ≡ Clash))

abbrev Brings : Know → Know → Value → Type 0
Brings g v u = IsTrue (knows_yes g) × (v ≡ Known u)

abbrev Rests : Know → Type 0
Rests g = (h : Value) × (g ≡ Known h) × (is_yes h ≡ false)

isnt_idle : (h : Value) → is_yes h ≡ true → Rests (Known h) → ⊥
isnt_idle h e (other, is, body_guard) = let same : h ≡ other = cc in let two : is_yes h ≡ is_yes other = ap is_yes same in cc

says_guarded : (h : Value) (v : Know) (b : Bool) → is_yes h ≡ b
    → Says (Tears (Known h) v) (Brings (Known h) v) (Rests (Known h)) (if b then enabled v else Nobody)
says_guarded h v false e =
    (in_either (λ clash. cc) (λ torn. let yes : is_yes h ≡ true = torn.0 in cc), (λ u given. let yes : is_yes h ≡ true = given.0 in cc), (h, refl, e))
says_guarded h Unknown true e =
    (in_either (λ clash. cc) (λ torn. let is : Unknown ≡ Clash = torn.1 in cc), (λ u given. let is : Unknown ≡ Known u = given.1 in cc), isnt_idle h e)
says_guarded h (Known x) true e = (
  in_either (λ clash. cc) (λ torn. let is : Known x ≡ Clash = torn.1 in cc),
  (e, refl),
  (λ u given. let is : Known x ≡ Known u = given.1 in cc),
  isnt_idle h e,
)
says_guarded h Clash true e = (inl (inr (e, refl)), isnt_idle h e)

says_one : (g v : Know) → Says (Tears g v) (Brings g v) (Rests g) (verdict_of_one g v)
says_one Unknown v =
    (in_either (λ clash. cc) (λ torn. let yes : false ≡ true = torn.0 in cc), (λ u given. let yes : false ≡ true = given.0 in cc), (λ (h, is, body_guard). cc))
says_one (Known h) v = says_guarded h v (is_yes h) refl
says_one Clash v = (inl (inl refl), (λ (h, is, body_guard). cc))

-- the verdict of writes to one target
come_to : List Write → Verdict
come_to [] = Nobody
come_to (w ∷ ws) = join (verdict_of_one w.guard w.value) (come_to ws)

says : (ws : List Write) → Says (SomeWrite IsTorn ws) (IsGiven ws) (AllByRecursion IsIdle ws) (come_to ws)
unfolding come_to
says [] = ((λ none. none), (λ u none. none), tt)
says (w ∷ ws) = says_both _ _ _ _ _ _ _ _ (says_one w.guard w.value) (says ws)

verdict_comes_to : (i : Instance) (delayed : Bool) (ws : List Write) → verdict i delayed ws ≡ come_to (writes_to i delayed ws)
unfolding come_to
verdict_comes_to i delayed [] = refl
verdict_comes_to i delayed (w ∷ ws) = one_more (is_to i delayed w) (verdict_comes_to i delayed ws)
  where
    one_more : (b : Bool) → verdict i delayed ws ≡ come_to (writes_to i delayed ws)
        → tally i delayed (if b then join Nobody (verdict_of_one w.guard w.value) else Nobody) ws
        ≡ come_to (if b then w ∷ writes_to i delayed ws else writes_to i delayed ws)
    one_more true e = tally-join i delayed ws (verdict_of_one w.guard w.value) ∙ ap (join (verdict_of_one w.guard w.value)) e
    one_more false e = e

pub verdicts_go_by_lines : (i : Instance) (delayed : Bool) (writes : List Write) → IsByLines i delayed writes
verdicts_go_by_lines i delayed writes =
    let ws = writes_to i delayed writes in
    let is : verdict i delayed writes ≡ come_to ws = verdict_comes_to i delayed writes in
    let s = says ws in
    record {
      torn = (
        (λ e. (subst (Says (SomeWrite IsTorn ws) (IsGiven ws) (AllByRecursion IsIdle ws)) (sym is ∙ e) s).0),
        (λ c. is ∙ torn_only _ _ _ _ s c),
      );
      one = λ v. (
        (λ e. one_is _ _ _ v (subst (Says (SomeWrite IsTorn ws) (IsGiven ws) (AllByRecursion IsIdle ws)) (sym is ∙ e) s)),
        (λ both. is ∙ one_only _ _ _ _ v s both.0 both.1),
      );
      nobody = (
        (λ e. (subst (Says (SomeWrite IsTorn ws) (IsGiven ws) (AllByRecursion IsIdle ws)) (sym is ∙ e) s).2),
        (λ all. is ∙ nobody_only _ _ _ _ s all),
      );
      undecided = (
        (λ e.
            let now : Says (SomeWrite IsTorn ws) (IsGiven ws) (AllByRecursion IsIdle ws) Open =
            subst (Says (SomeWrite IsTorn ws) (IsGiven ws) (AllByRecursion IsIdle ws)) (sym is ∙ e) s in
            record { not_torn = agrees_open _ _ _ now; none_given = now.1; not_idle = now.2 }),
        (λ (none : NoLineHolds ws). is ∙ open_only _ _ _ _ s none.not_torn none.none_given none.not_idle),
      );
    }
