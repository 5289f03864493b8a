-- Whether the walk comes to a deed is always plain, so the verdicts of the writes as shown are those of the writes that it
-- comes to.
use Rattle.std.proofs.Common.{◌≡◌, ℕ, Bool, true, false, ◌||◌, List, [], ◌∷◌, ◌++◌, map, Option, Some, None, refl, sym, ap, ap₂, subst, ◌∙◌, if◌then◌else◌}
use Rattle.std.specs.List.{AllByRecursion}
use Rattle.qz_values.specs.declared.Know.{Know}
use Rattle.qz_values.specs.declared.Know.TheVariants.{Known}
use Rattle.qz_values.specs.Values.{no}
use Rattle.qz_values.specs.Knowledge.{either, knows_yes}
use Rattle.qz_syntax.specs.declared.expressions.Expr.{Expr}
use Rattle.qz_syntax.specs.declared.statements.Kind.{Kind}
use Rattle.qz_syntax.specs.declared.statements.Stmt.{Stmt, map-Stmt}
use Rattle.qz_syntax.specs.declared.statements.Stmt.TheOpen.{Stmt-F}
use Rattle.qz_syntax.specs.declared.statements.Stmt.TheFolds.{fold-roll-Stmt, ind-Stmt}
use Rattle.qz_meaning.specs.Instances.{Instance}
use Rattle.qz_meaning.specs.Accounts.{Write}
use Rattle.qz_meaning.specs.Scenes.{Scene, Context}
use Rattle.qz_meaning.specs.Layouts.{PlaceBits}
use Rattle.qz_meaning.specs.Landings.{Deed, Wrote, Starts, Resumes}
use Rattle.qz_meaning.specs.Verdicts.{Verdict, Nobody, Open, One, Torn, join, verdict_of_one, is_to, tally}
use Rattle.qz_control.specs.Leaves.{known_bit}
use Rattle.qz_control.specs.Guarded.{Deeds, lively, come_to}
use Rattle.qz_control.specs.Shown.{hide, writes_in, with_shown, shown, AreFalse}
use Rattle.qz_control.specs.Mirrors.{Walk, Mirror, passing_mirror, any_inside}
use Rattle.qz_control.specs.MemberMirrors.{next_guard, run_all, run_each}
use Rattle.qz_control.specs.BodyMirrors.{suspension_mirror}
use Rattle.qz_control.specs.Mirror.{node_mirror, mirror_of}
use Rattle.qz_syntax.specs.declared.modules.Module.{Module}
use Rattle.qz_syntax.specs.declared.places.Residual.{Residual}
use Rattle.qz_meaning.specs.Calls.{Answers, open_layout}
use Rattle.qz_meaning.specs.Walks.{layout}
use Rattle.qz_meaning.specs.Landings.{open_walk}
use Rattle.qz_meaning.specs.Verdicts.{verdict}
use Rattle.qz_control.specs.Ready.{is_ready}
use Rattle.qz_control.specs.Follows.{RestsAt}
use Rattle.qz_control.proofs.Bits.{either_known}
use Rattle.qz_control.proofs.Resumes.{nets_resume, walk_is}

abbrev pub IsBit : Know → Type 0
IsBit k = (x : Bool) × (k ≡ known_bit x)

abbrev pub AllPlain : Deeds → Type 0
AllPlain deeds = AllByRecursion (λ (one : Know × Deed). IsBit one.0) deeds

pub record Lively (m : Mirror) : Type 0 where
  pub inside : (b : PlaceBits) → IsBit (m.inside b)
  pub lives : (b : PlaceBits) (ctx : Context) (act live g : Know) → IsBit live → AllPlain (m.run ctx b act live g)

plain-append : (xs ys : Deeds) → AllPlain xs → AllPlain ys → AllPlain (xs ++ ys)
plain-append [] ys p q = q
plain-append (x ∷ xs) ys p q = (p.0, plain-append xs ys p.1 q)

plain_lively : (k : Know) (deeds : List Deed) → IsBit k → AllPlain (lively k deeds)
plain_lively k [] p = tt
plain_lively k (d ∷ deeds) p = (p, plain_lively k deeds p)

either_bit : (k l : Know) → IsBit k → IsBit l → IsBit (either k l)
either_bit k l p q = (p.0 || q.0, ap₂ either p.1 q.1 ∙ either_known p.0 q.0)

passing_lively : (walk : Walk) → Lively (passing_mirror walk)
passing_lively walk = record { inside = λ b. (false, refl); lives = λ b ctx act live g p. plain_lively live _ p }

any_bit : (ms : List Mirror) → AllByRecursion Lively ms → (b : PlaceBits) (k : Know) → IsBit k → IsBit (any_inside ms b k)
any_bit [] h b k p = p
any_bit (m ∷ ms) h b k p = any_bit ms h.1 b (either k (m.inside b)) (either_bit k (m.inside b) p (h.0.inside b))

all_lives : (ms : List Mirror) → AllByRecursion Lively ms → (b : PlaceBits) (ctx : Context) (act live g : Know) → IsBit live
    → AllPlain (run_all ctx ms b act live g)
all_lives [] h b ctx act live g p = tt
all_lives (m ∷ ms) h b ctx act live g p =
    plain-append (m.run ctx b act live g) _ (h.0.lives b ctx act live g p)
    (all_lives ms h.1 b ctx act (either live (m.inside b)) (next_guard ctx m b act g) (either_bit live (m.inside b) p (h.0.inside b)))

each_lives : (ms : List Mirror) → AllByRecursion Lively ms → (b : PlaceBits) (ctx : Context) (act live g : Know) → IsBit live
    → AllPlain (run_each ctx ms b act live g)
each_lives [] h b ctx act live g p = tt
each_lives (m ∷ ms) h b ctx act live g p =
    plain-append (m.run ctx b act live g) _ (h.0.lives b ctx act live g p) (each_lives ms h.1 b ctx act live g p)

module _ (scene : Scene) where
  suspended : (kind : Kind) (hold : Option ℕ) (condition : Expr) (body : Mirror) (walk : Walk) → Lively body
      → Lively (suspension_mirror scene kind hold body condition walk)
  suspended kind None condition body walk h = record { inside = λ b. h.inside b; lives = λ b ctx act live g p. h.lives b ctx _ live g p }
  suspended kind (Some hold) condition body walk h = record {
    inside = λ b. either_bit (known_bit (b.place hold)) (body.inside b) (b.place hold, refl) (h.inside b);
    lives = λ b ctx act live g p. h.lives b ctx _ _ _ (either_bit live (known_bit (b.place hold)) p (b.place hold, refl));
  }

  abbrev Proved : Type 0
  Proved = (s : Stmt) × Lively (mirror_of scene s)

  all_parts : (parts : List Proved) → AllByRecursion Lively (map (mirror_of scene) (map (λ (e : Proved). e.0) parts))
  all_parts [] = tt
  all_parts (e ∷ parts) = (e.1, all_parts parts)

  abbrev AtNode : Stmt-F Stmt → Type 0
  AtNode x = Lively (node_mirror scene (map-Stmt Stmt Mirror (mirror_of scene) x))

  at_node : (node : Stmt-F Proved) → AtNode (map-Stmt Proved Stmt (λ e. e.0) node)
  at_node Stmt-F.Nothing = passing_lively _
  at_node (Stmt-F.Assign target value) = passing_lively _
  at_node (Stmt-F.Delayed target value) = passing_lively _
  at_node (Stmt-F.Pause place) = record { inside = λ b. (b.place place, refl); lives = λ b ctx act live g p. tt }
  at_node (Stmt-F.Seq parts) = record {
    inside = λ b. any_bit _ (all_parts parts) b (Known no) (false, refl);
    lives = λ b ctx act live g p. all_lives _ (all_parts parts) b ctx act live g p;
  }
  at_node (Stmt-F.Par parts) = record {
    inside = λ b. any_bit _ (all_parts parts) b (Known no) (false, refl);
    lives = λ b ctx act live g p. each_lives _ (all_parts parts) b ctx act live g p;
  }
  at_node (Stmt-F.If condition first second) = record {
    inside = λ b. either_bit _ _ (first.1.inside b) (second.1.inside b);
    lives = λ b ctx act live g p. plain-append _ _ (first.1.lives b ctx act live _ p) (second.1.lives b ctx act live _ p);
  }
  at_node (Stmt-F.Loop number body condition) = record {
    inside = λ b. body.1.inside b;
    lives = λ b ctx act live g p. plain-append _ _ (body.1.lives b ctx act live g p) (plain_lively ((mirror_of scene body.0).inside b) _ (body.1.inside b));
  }
  at_node (Stmt-F.Abort kind body condition) = record { inside = λ b. body.1.inside b; lives = λ b ctx act live g p. body.1.lives b ctx _ live _ p }
  at_node (Stmt-F.Suspend kind hold body condition) = suspended kind hold condition _ _ body.1
  at_node (Stmt-F.Scope locals body) = record { inside = λ b. body.1.inside b; lives = λ b ctx act live g p. body.1.lives b _ act live g p }
  at_node (Stmt-F.Call number proto arguments) = passing_lively _
  at_node (Stmt-F.Bind bindings body) = passing_lively _

  pub mirrors_lively : (s : Stmt) → Lively (mirror_of scene s)
  mirrors_lively = ind-Stmt (λ s. Lively (mirror_of scene s)) (λ x y is.
      subst Lively (sym (fold-roll-Stmt Mirror (node_mirror scene) x)) (subst AtNode is (at_node y)))

-- a list with an element isn't empty
cons_none : (d : Deed) (ds : List Deed) → d ∷ ds ≡ [] → ⊥
cons_none d ds h = cc

join_nobody : (v : Verdict) → join v Nobody ≡ v
join_nobody Nobody = refl
join_nobody Open = refl
join_nobody (One v) = refl
join_nobody Torn = refl

-- a write that is hidden changes no verdict
hidden_nobody : (i : Instance) (delayed : Bool) (w : Write) (v : Verdict)
    → (if is_to i delayed (hide (known_bit false) w) then join v (verdict_of_one (hide (known_bit false) w).guard w.value) else v) ≡ v
hidden_nobody i delayed w v = by (is_to i delayed (hide (known_bit false) w))
  where
    by : (b : Bool) → (if b then join v Nobody else v) ≡ v
    by true = join_nobody v
    by false = refl

shown_by : (i : Instance) (delayed : Bool) (v : Verdict) (deed : Deed) (ws : List Write) (deeds : List Deed) (x : Bool)
    → ((v : Verdict) → tally i delayed v ws ≡ tally i delayed v (writes_in deeds))
    → tally i delayed v (with_shown (known_bit x) deed ws) ≡ tally i delayed v (writes_in (if x then deed ∷ deeds else deeds))
shown_by i delayed v (Wrote w) ws deeds true h = h (if is_to i delayed w then join v (verdict_of_one w.guard w.value) else v)
shown_by i delayed v (Wrote w) ws deeds false h = ap (λ u. tally i delayed u ws) (hidden_nobody i delayed w v) ∙ h v
shown_by i delayed v (Starts call g m) ws deeds true h = h v
shown_by i delayed v (Starts call g m) ws deeds false h = h v
shown_by i delayed v (Resumes call g) ws deeds true h = h v
shown_by i delayed v (Resumes call g) ws deeds false h = h v

knows_known : (a : Bool) → knows_yes (known_bit a) ≡ a
knows_known true = refl
knows_known false = refl

pub tally_shown : (i : Instance) (delayed : Bool) (deeds : Deeds) → AllPlain deeds → (v : Verdict)
    → tally i delayed v (shown deeds) ≡ tally i delayed v (writes_in (come_to deeds))
tally_shown i delayed [] h v = refl
tally_shown i delayed (one ∷ deeds) h v =
    ap (λ k. tally i delayed v (with_shown k one.1 (shown deeds))) h.0.1
    ∙ shown_by i delayed v one.1 (shown deeds) (come_to deeds) h.0.0 (tally_shown i delayed deeds h.1)
    ∙ ap (λ x. tally i delayed v (writes_in (if x then one.1 ∷ come_to deeds else come_to deeds))) (sym (knows_known h.0.0) ∙ ap knows_yes (sym h.0.1))

-- what the nets show of a resume has the resume's verdicts
pub resume_shown : (m : Module) (scene : Scene) (answers : Answers) (s : Stmt) → is_ready m s ≡ true → (b : PlaceBits) (r : Residual) → RestsAt (layout open_layout s) b r
    → (ctx : Context) (act : Know) (i : Instance) (delayed : Bool)
    → verdict i delayed (shown ((mirror_of scene s).run ctx b act (known_bit false) (known_bit false))) ≡ verdict i delayed (writes_in ((open_walk scene answers s).resume ctx r act))
resume_shown m scene answers s ready b r at ctx act i delayed =
    tally_shown i delayed ((mirror_of scene s).run ctx b act (known_bit false) (known_bit false))
    ((mirrors_lively scene s).lives b ctx act (known_bit false) (known_bit false) (false, refl)) Nobody
    ∙ ap (λ deeds. verdict i delayed (writes_in deeds)) ((nets_resume m scene s ready).at_run b r ctx act (known_bit false) at
    ∙ ap (λ (w : Walk). w.resume ctx r act) (walk_is m scene answers s ready))

false_shown : (deed : Deed) (ws : List Write) → AreFalse ws → AreFalse (with_shown (known_bit false) deed ws)
false_shown (Wrote w) ws h = (refl, h)
false_shown (Starts call g m) ws h = h
false_shown (Resumes call g) ws h = h

-- where the walk comes to nothing
none_come : (deeds : Deeds) → AllPlain deeds → come_to deeds ≡ [] → AreFalse (shown deeds)
none_come [] p h = tt
none_come (one ∷ deeds) p h = by p.0.0 p.0.1 (λ h. none_come deeds p.1 h)
  where
    by : (x : Bool) → one.0 ≡ known_bit x → (come_to deeds ≡ [] → AreFalse (shown deeds)) → AreFalse (with_shown one.0 one.1 (shown deeds))
    by true is more = absurd (cons_none _ _ (sym (ap (λ k. if knows_yes k then one.1 ∷ come_to deeds else come_to deeds) is) ∙ h))
    by false is more =
        subst (λ k. AreFalse (with_shown k one.1 (shown deeds))) (sym is)
        (false_shown one.1 (shown deeds) (more (sym (ap (λ k. if knows_yes k then one.1 ∷ come_to deeds else come_to deeds) is) ∙ h)))

-- where control isn't inside, nothing that is shown happens, whatever is known
pub away_shown : (m : Module) (scene : Scene) (s : Stmt) → is_ready m s ≡ true → (b : PlaceBits) → (layout open_layout s).away b ≡ true
    → (ctx : Context) (act : Know) → AreFalse (shown ((mirror_of scene s).run ctx b act (known_bit false) (known_bit false)))
away_shown m scene s ready b away ctx act =
    none_come ((mirror_of scene s).run ctx b act (known_bit false) (known_bit false))
    ((mirrors_lively scene s).lives b ctx act (known_bit false) (known_bit false) (false, refl))
    ((nets_resume m scene s ready).away_run b ctx act (known_bit false) false away)
