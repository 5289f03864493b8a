-- No instance is met twice: each scope that a walk comes past is kept or entered once, by one mark.
use Rattle.std.proofs.Common.{◌≡◌, ℕ, zero, suc, ◌+◌, ◌≤◌, Bool, true, false, ◌&&◌, List, [], ◌∷◌, ◌++◌, map, drop, Option, Some, None, refl, sym, ap, ap₂, subst, subst₂, ◌∙◌, arith}
use Rattle.std.specs.Prelude.{◌==◌, if◌then◌else◌}
use Rattle.std.specs.List.{flat_map, concat, AllByRecursion}
use Rattle.std.proofs.lemmas.Bool.{false≢true}
use Rattle.std.proofs.lemmas.List.{append-nil}
use Rattle.qz_syntax.specs.declared.expressions.Var.{Var}
use Rattle.qz_syntax.specs.declared.expressions.Var.TheVariants as var
use Rattle.qz_syntax.specs.declared.statements.Stmt.{Stmt, map-Stmt, roll-Stmt}
use Rattle.qz_syntax.specs.declared.statements.Stmt.TheOpen.{Stmt-F}
use Rattle.qz_syntax.specs.declared.statements.Stmt.TheFolds.{fold-roll-Stmt, ind-Stmt}
use Rattle.qz_syntax.specs.declared.places.Mark.{Mark}
use Rattle.qz_syntax.specs.declared.places.Mark.TheVariants as mark
use Rattle.qz_syntax.specs.declared.places.Store.{Store}
use Rattle.qz_syntax.specs.declared.places.Residual.{Residual}
use Rattle.qz_syntax.specs.Numbers.{parts_of, own_locals, own_loops, locals_of, loops_of}
use Rattle.qz_meaning.specs.Instances.{Instance, is_same_mark, is_same_instance}
use Rattle.qz_meaning.specs.Residuals.{inner, member_of, branches_of, side_of, is_held, stores_of}
use Rattle.qz_meaning.specs.Layouts.{Met, Layout, bare}
use Rattle.qz_meaning.specs.Simple.{pause_layout}
use Rattle.qz_meaning.specs.Sequences.{member, sequence_layout}
use Rattle.qz_meaning.specs.Parallels.{resting, parallel_layout}
use Rattle.qz_meaning.specs.Choices.{choice_layout}
use Rattle.qz_meaning.specs.Loops.{loop_layout}
use Rattle.qz_meaning.specs.Aborts.{body_layout}
use Rattle.qz_meaning.specs.Suspends.{suspend_layout}
use Rattle.qz_meaning.specs.Scopes.{met_new, met_kept, scope_layout}
use Rattle.qz_meaning.specs.Walks.{node_layout, layout}
use Rattle.qz_meaning.specs.Programs.{times}
use Rattle.qz_meaning.proofs.Finding.{same_mark}

pub times-append : (n : ℕ) (xs ys : List ℕ) → times n (xs ++ ys) ≡ times n xs + times n ys
times-append n [] ys = let e : times n ys ≡ 0 + times n ys = omega arith in e
times-append n (x ∷ xs) ys = let more = times-append n xs ys in omega (arith, more)

-- how often an instance is met
abbrev pub met_times : Instance → List Met → ℕ
met_times i [] = 0
met_times i (one ∷ met) = (if is_same_instance one.instance i then 1 else 0) + met_times i met

pub met-append : (i : Instance) (xs ys : List Met) → met_times i (xs ++ ys) ≡ met_times i xs + met_times i ys
met-append i [] ys = let e : met_times i ys ≡ 0 + met_times i ys = omega arith in e
met-append i (x ∷ xs) ys = let more = met-append i xs ys in omega (arith, more)

-- how often a variable stands among the numbers of locals
abbrev pub local_times : Var → List ℕ → ℕ
local_times (var.Formal n) locals = 0
local_times (var.Local n) locals = times n locals
local_times (var.Bound n) locals = 0

local-append : (x : Var) (xs ys : List ℕ) → local_times x (xs ++ ys) ≡ local_times x xs + local_times x ys
local-append (var.Formal n) xs ys = omega arith
local-append (var.Local n) xs ys = times-append n xs ys
local-append (var.Bound n) xs ys = omega arith

-- what is met under this mark alone
abbrev pub at_mark : Bool → ℕ → ℕ
at_mark true n = n
at_mark false n = 0

at_mark_sum : (b : Bool) (m n : ℕ) → at_mark b (m + n) ≡ at_mark b m + at_mark b n
at_mark_sum true m n = refl
at_mark_sum false m n = omega arith

pub at_mark_most : (b : Bool) (n : ℕ) → at_mark b n ≤ n
at_mark_most true n = omega arith
at_mark_most false n = omega arith

at_mark_none : (b : Bool) → 0 ≡ at_mark b 0
at_mark_none true = refl
at_mark_none false = refl

-- a start meets each local once under its own mark; a resume meets each at most once, and under no mark of
-- a loop that isn't inside
pub record Once (l : Layout) (locals loops : List ℕ) : Type 0 where
  pub start : (i : Instance) (m : Mark) → met_times i (l.met_on_start m) ≡ at_mark (is_same_mark m i.mark) (local_times i.variable locals)
  pub resume : (i : Instance) (r : Residual) → met_times i (l.met_on_resume r) ≤ local_times i.variable locals
  pub turned : (x : Var) (r : Residual) (k : ℕ) → times k loops ≡ 0 → met_times record { variable = x; mark = mark.Loop k } (l.met_on_resume r) ≡ 0

nothing_local : (x : Var) → local_times x [] ≡ 0
nothing_local (var.Formal n) = refl
nothing_local (var.Local n) = refl
nothing_local (var.Bound n) = refl

none_at : (x : Var) (b : Bool) → 0 ≡ at_mark b (local_times x [])
none_at x b = at_mark_none b ∙ ap (at_mark b) (sym (nothing_local x))

once_bare : Once bare [] []
once_bare = record {
  start = λ i m. none_at i.variable (is_same_mark m i.mark);
  resume = λ i r. omega arith;
  turned = λ x r k h. refl;
}

once_pause : (place : ℕ) → Once (pause_layout place) [] []
once_pause place = record {
  start = λ i m. none_at i.variable (is_same_mark m i.mark);
  resume = λ i r. omega arith;
  turned = λ x r k h. refl;
}

-- a statement's only part
only_part : (l : Layout) (locals loops : List ℕ) → Once l locals loops → Once l (locals ++ []) (loops ++ [])
only_part l locals loops x = subst₂ (Once l) (sym (append-nil locals)) (sym (append-nil loops)) x

once_body : (l : Layout) (locals loops : List ℕ) → Once l locals loops → Once (body_layout l) locals loops
once_body l locals loops x = record {
  start = λ i m. x.start i m;
  resume = λ i r. x.resume i (inner r);
  turned = λ y r k h. x.turned y (inner r) k h;
}

if_once : (b : Bool) (x y : List Met) (i : Instance) (n : ℕ) → met_times i x ≤ n → met_times i y ≤ n → met_times i (if b then x else y) ≤ n
if_once true x y i n p q = p
if_once false x y i n p q = q

if_none : (b : Bool) (x y : List Met) (i : Instance) → met_times i x ≡ 0 → met_times i y ≡ 0 → met_times i (if b then x else y) ≡ 0
if_none true x y i p q = p
if_none false x y i p q = q

once_suspend : (hold : Option ℕ) (l : Layout) (locals loops : List ℕ) → Once l locals loops → Once (suspend_layout hold l) locals loops
once_suspend hold l locals loops x = record {
  start = λ i m. x.start i m;
  resume = λ i r.
      let start = x.start i mark.Zero in
      let most = at_mark_most (is_same_mark mark.Zero i.mark) (local_times i.variable locals) in
      if_once (is_held r) _ _ i _ (omega (arith, start, most)) (x.resume i (inner r));
  turned = λ y r k h. if_none (is_held r) _ _ _ (x.start _ mark.Zero) (x.turned y (inner r) k h);
}

once_choice : (l l₂ : Layout) (xs ys ks hs : List ℕ) → Once l xs ks → Once l₂ ys hs → Once (choice_layout l l₂) (xs ++ (ys ++ [])) (ks ++ (hs ++ []))
once_choice l l₂ xs ys ks hs x y = subst₂ (λ i j. Once (choice_layout l l₂) (xs ++ i) (ks ++ j)) (sym (append-nil ys)) (sym (append-nil hs)) record {
  start = λ i m.
      met-append i (l.met_on_start m) (l₂.met_on_start m) ∙ ap₂ (λ a b. a + b) (x.start i m) (y.start i m)
      ∙ sym (at_mark_sum (is_same_mark m i.mark) _ _) ∙ ap (at_mark (is_same_mark m i.mark)) (sym (local-append i.variable xs ys));
  resume = λ i r.
      let both = local-append i.variable xs ys in
      by_side (side_of r) i (inner r) (omega (arith, both));
  turned = λ z r k h.
      let both = times-append k ks hs in
      side_none (side_of r) z (inner r) k (omega (arith, both, h)) (omega (arith, both, h));
} where
  by_side : (side : Bool) (i : Instance) (r : Residual) → local_times i.variable xs + local_times i.variable ys ≤ local_times i.variable (xs ++ ys)
      → met_times i ((if side then l else l₂).met_on_resume r) ≤ local_times i.variable (xs ++ ys)
  by_side true i r h = let a = x.resume i r in omega (arith, a, h)
  by_side false i r h = let a = y.resume i r in omega (arith, a, h)

  side_none : (side : Bool) (z : Var) (r : Residual) (k : ℕ) → times k ks ≡ 0 → times k hs ≡ 0
      → met_times record { variable = z; mark = mark.Loop k } ((if side then l else l₂).met_on_resume r) ≡ 0
  side_none true z r k p q = x.turned z r k p
  side_none false z r k p q = y.turned z r k q

at_turn : (n : ℕ) (i : Instance) (l : Layout) (locals loops : List ℕ) (r : Residual) → Once l locals loops → times n loops ≡ 0 → (b : Bool) → is_same_mark (mark.Loop n) i.mark ≡ b
    → met_times i (l.met_on_resume r) + at_mark b (local_times i.variable locals) ≤ local_times i.variable locals
at_turn n i l locals loops r x h true e =
    let is : mark.Loop n ≡ i.mark = same_mark (mark.Loop n) i.mark e in
    let none : met_times i (l.met_on_resume r) ≡ 0 = subst (λ (m : Mark). met_times record { variable = i.variable; mark = m } (l.met_on_resume r) ≡ 0) is (x.turned i.variable r n h) in
    omega (arith, none)
at_turn n i l locals loops r x h false e = let most = x.resume i r in omega (arith, most)

own_turn : (m n k : ℕ) → (m == n) ≡ false → at_mark (is_same_mark (mark.Loop m) (mark.Loop n)) k ≡ 0
own_turn m n k h = ap (λ b. at_mark b k) h

once_loop : (number : ℕ) (l : Layout) (locals loops : List ℕ) → Once l locals loops → times number (number ∷ loops) ≤ 1 → Once (loop_layout number l) locals (number ∷ loops)
once_loop number l locals loops x once = record {
  start = λ i m. x.start i m;
  resume = λ i r.
      let both = met-append i (l.met_on_resume (inner r)) (l.met_on_start (mark.Loop number)) in
      let start = x.start i (mark.Loop number) in
      let most = at_turn number i l locals loops (inner r) x (inside (number == number) (grind arith) once) (is_same_mark (mark.Loop number) i.mark) refl in
      omega (arith, both, start, most);
  turned = λ y r k h.
      let i : Instance = record { variable = y; mark = mark.Loop k } in
      let both = met-append i (l.met_on_resume (inner r)) (l.met_on_start (mark.Loop number)) in
      let parts = apart k (number == k) refl h in
      let kept = x.turned y (inner r) k parts.1 in
      let start = x.start i (mark.Loop number) ∙ own_turn number k _ parts.0 in
      omega (arith, both, start, kept);
} where
  inside : (b : Bool) → b ≡ true → (if b then 1 else 0) + times number loops ≤ 1 → times number loops ≡ 0
  inside true e h = omega (arith, h)
  inside false e h = absurd (false≢true e)

  apart : (k : ℕ) (b : Bool) → (number == k) ≡ b → (if b then 1 else 0) + times k loops ≡ 0 → ((number == k) ≡ false) × (times k loops ≡ 0)
  apart k true e h = absurd (omega (arith, h))
  apart k false e h = (e, omega (arith, h))

new_times : (x : Var) (locals : List ℕ) (m n : Mark) (b : Bool) → is_same_mark m n ≡ b
    → met_times record { variable = x; mark = n } (met_new locals m) ≡ at_mark b (local_times x locals)
new_times x [] m n b e = none_at x b
new_times (var.Formal k) (y ∷ locals) m n b e = let more = new_times (var.Formal k) locals m n b e in omega (arith, more)
new_times (var.Bound k) (y ∷ locals) m n b e = let more = new_times (var.Bound k) locals m n b e in omega (arith, more)
new_times (var.Local k) (y ∷ locals) m n b e =
    ap₂ (λ c d. (if c then 1 else 0) + d) (ap (λ c. (y == k) && c) e) (new_times (var.Local k) locals m n b e) ∙ one_more (y == k) b (times k locals)
  where
    one_more : (c b : Bool) (n : ℕ) → (if c && b then 1 else 0) + at_mark b n ≡ at_mark b ((if c then 1 else 0) + n)
    one_more true true n = refl
    one_more true false n = refl
    one_more false true n = refl
    one_more false false n = refl

pub one_most : (c b : Bool) → (if c && b then 1 else 0) ≤ (if c then 1 else 0)
one_most true true = omega arith
one_most true false = omega arith
one_most false b = omega arith

kept_times : (x : Var) (locals : List ℕ) (stores : List Store) (n : Mark) → met_times record { variable = x; mark = n } (met_kept locals stores) ≤ local_times x locals
kept_times x [] stores n = omega arith
kept_times x (y ∷ locals) [] n = omega arith
kept_times (var.Formal k) (y ∷ locals) (s ∷ stores) n = let more = kept_times (var.Formal k) locals stores n in omega (arith, more)
kept_times (var.Bound k) (y ∷ locals) (s ∷ stores) n = let more = kept_times (var.Bound k) locals stores n in omega (arith, more)
kept_times (var.Local k) (y ∷ locals) (s ∷ stores) n =
    let one = one_most (y == k) (is_same_mark mark.Zero n) in
    let more = kept_times (var.Local k) locals stores n in
    omega (arith, one, more)

kept_turned : (x : Var) (locals : List ℕ) (stores : List Store) (k : ℕ) → met_times record { variable = x; mark = mark.Loop k } (met_kept locals stores) ≡ 0
kept_turned x [] stores k = refl
kept_turned x (y ∷ locals) [] k = refl
kept_turned (var.Formal n) (y ∷ locals) (s ∷ stores) k = let more = kept_turned (var.Formal n) locals stores k in omega (arith, more)
kept_turned (var.Bound n) (y ∷ locals) (s ∷ stores) k = let more = kept_turned (var.Bound n) locals stores k in omega (arith, more)
kept_turned (var.Local n) (y ∷ locals) (s ∷ stores) k = let more = kept_turned (var.Local n) locals stores k in never (y == n) more where
  never : (c : Bool) → met_times record { variable = var.Local n; mark = mark.Loop k } (met_kept locals stores) ≡ 0
      → (if c && false then 1 else 0) + met_times record { variable = var.Local n; mark = mark.Loop k } (met_kept locals stores) ≡ 0
  never true h = omega (arith, h)
  never false h = omega (arith, h)

once_scope : (own : List ℕ) (l : Layout) (locals loops : List ℕ) → Once l locals loops → Once (scope_layout own l) (own ++ locals) loops
once_scope own l locals loops x = record {
  start = λ i m.
      met-append i (met_new own m) (l.met_on_start m) ∙ ap₂ (λ a b. a + b) (new_times i.variable own m i.mark (is_same_mark m i.mark) refl) (x.start i m)
      ∙ sym (at_mark_sum (is_same_mark m i.mark) _ _) ∙ ap (at_mark (is_same_mark m i.mark)) (sym (local-append i.variable own locals));
  resume = λ i r.
      let both = met-append i (met_kept own (stores_of r)) (l.met_on_resume (inner r)) in
      let all = local-append i.variable own locals in
      let kept = kept_times i.variable own (stores_of r) i.mark in
      let more = x.resume i (inner r) in
      omega (arith, both, all, kept, more);
  turned = λ y r k h.
      let both = met-append record { variable = y; mark = mark.Loop k } (met_kept own (stores_of r)) (l.met_on_resume (inner r)) in
      let kept = kept_turned y own (stores_of r) k in
      let more = x.turned y (inner r) k h in
      omega (arith, both, kept, more);
}

abbrev L : Stmt → Layout
L = layout (λ number. bare)

abbrev IsOnce : Stmt → Type 0
IsOnce s = Once (L s) (locals_of s) (loops_of s)

starts_times : (parts : List Stmt) → AllByRecursion IsOnce parts → (i : Instance) (m : Mark)
    → met_times i (flat_map (λ (part : Layout). part.met_on_start m) (map L parts)) ≡ at_mark (is_same_mark m i.mark) (local_times i.variable (concat (map locals_of parts)))
starts_times [] h i m = none_at i.variable (is_same_mark m i.mark)
starts_times (s ∷ parts) h i m =
    met-append i _ _ ∙ ap₂ (λ a b. a + b) (h.0.start i m) (starts_times parts h.1 i m)
    ∙ sym (at_mark_sum (is_same_mark m i.mark) _ _) ∙ ap (at_mark (is_same_mark m i.mark)) (sym (local-append i.variable (locals_of s) (concat (map locals_of parts))))

members_times : (parts : List Stmt) → AllByRecursion IsOnce parts → (i : Instance) (r : Residual) (n : ℕ)
    → met_times i ((member bare (map L parts) n).met_on_resume r) + met_times i (flat_map (λ (part : Layout). part.met_on_start mark.Zero) (drop (suc n) (map L parts))) ≤ local_times i.variable (concat (map locals_of parts))
members_times [] h i r n = omega arith
members_times (s ∷ parts) h i r zero =
    let one = h.0.resume i r in
    let starts = starts_times parts h.1 i mark.Zero in
    let most = at_mark_most (is_same_mark mark.Zero i.mark) (local_times i.variable (concat (map locals_of parts))) in
    let all = local-append i.variable (locals_of s) (concat (map locals_of parts)) in
    omega (arith, one, starts, most, all)
members_times (s ∷ parts) h i r (suc n) =
    let more = members_times parts h.1 i r n in
    let all = local-append i.variable (locals_of s) (concat (map locals_of parts)) in
    omega (arith, more, all)

members_turned : (parts : List Stmt) → AllByRecursion IsOnce parts → (x : Var) (r : Residual) (k : ℕ) → times k (concat (map loops_of parts)) ≡ 0 → (n : ℕ)
    → met_times record { variable = x; mark = mark.Loop k } ((member bare (map L parts) n).met_on_resume r) ≡ 0
members_turned [] h x r k e n = refl
members_turned (s ∷ parts) h x r k e zero = let all = times-append k (loops_of s) (concat (map loops_of parts)) in h.0.turned x r k (omega (arith, all, e))
members_turned (s ∷ parts) h x r k e (suc n) =
    let all = times-append k (loops_of s) (concat (map loops_of parts)) in members_turned parts h.1 x r k (omega (arith, all, e)) n

all_drop : (parts : List Stmt) (n : ℕ) → AllByRecursion IsOnce parts → AllByRecursion IsOnce (drop n parts)
all_drop parts zero h = h
all_drop [] (suc n) h = tt
all_drop (s ∷ parts) (suc n) h = all_drop parts n h.1

drop-L : (parts : List Stmt) (n : ℕ) → drop n (map L parts) ≡ map L (drop n parts)
drop-L parts zero = refl
drop-L [] (suc n) = refl
drop-L (s ∷ parts) (suc n) = drop-L parts n

once_sequence : (parts : List Stmt) → AllByRecursion IsOnce parts → Once (sequence_layout (map L parts)) (concat (map locals_of parts)) (concat (map loops_of parts))
once_sequence parts h = record {
  start = λ i m. starts_times parts h i m;
  resume = λ i r.
      let next : member_of r + 1 ≡ suc (member_of r) = omega arith in
      let both = met-append i ((member bare (map L parts) (member_of r)).met_on_resume (inner r)) (flat_map (λ (part : Layout). part.met_on_start mark.Zero) (drop (member_of r + 1) (map L parts))) in
      let same = ap (λ n. met_times i (flat_map (λ (part : Layout). part.met_on_start mark.Zero) (drop n (map L parts)))) next in
      let most = members_times parts h i (inner r) (member_of r) in
      omega (arith, both, same, most);
  turned = λ x r k e.
      let i : Instance = record { variable = x; mark = mark.Loop k } in
      let both = met-append i ((member bare (map L parts) (member_of r)).met_on_resume (inner r)) (flat_map (λ (part : Layout). part.met_on_start mark.Zero) (drop (member_of r + 1) (map L parts))) in
      let one = members_turned parts h x (inner r) k e (member_of r) in
      let later = ap (λ ls. met_times i (flat_map (λ (part : Layout). part.met_on_start mark.Zero) ls)) (drop-L parts (member_of r + 1))
      ∙ starts_times (drop (member_of r + 1) parts) (all_drop parts (member_of r + 1) h) i mark.Zero in
      omega (arith, both, one, later);
}

branches_times : (parts : List Stmt) (branches : List (Option Residual)) → AllByRecursion IsOnce parts → (i : Instance)
    → met_times i (flat_map (λ (one : Layout × Residual). one.0.met_on_resume one.1) (resting (map L parts) branches)) ≤ local_times i.variable (concat (map locals_of parts))
branches_times [] branches h i = omega arith
branches_times (s ∷ parts) [] h i = omega arith
branches_times (s ∷ parts) (None ∷ branches) h i =
    let more = branches_times parts branches h.1 i in
    let all = local-append i.variable (locals_of s) (concat (map locals_of parts)) in
    omega (arith, more, all)
branches_times (s ∷ parts) (Some r ∷ branches) h i =
    let both = met-append i ((L s).met_on_resume r) (flat_map (λ (one : Layout × Residual). one.0.met_on_resume one.1) (resting (map L parts) branches)) in
    let one = h.0.resume i r in
    let more = branches_times parts branches h.1 i in
    let all = local-append i.variable (locals_of s) (concat (map locals_of parts)) in
    omega (arith, both, one, more, all)

branches_turned : (parts : List Stmt) (branches : List (Option Residual)) → AllByRecursion IsOnce parts → (x : Var) (k : ℕ) → times k (concat (map loops_of parts)) ≡ 0
    → met_times record { variable = x; mark = mark.Loop k } (flat_map (λ (one : Layout × Residual). one.0.met_on_resume one.1) (resting (map L parts) branches)) ≡ 0
branches_turned [] branches h x k e = refl
branches_turned (s ∷ parts) [] h x k e = refl
branches_turned (s ∷ parts) (None ∷ branches) h x k e =
    let all = times-append k (loops_of s) (concat (map loops_of parts)) in branches_turned parts branches h.1 x k (omega (arith, all, e))
branches_turned (s ∷ parts) (Some r ∷ branches) h x k e =
    let all = times-append k (loops_of s) (concat (map loops_of parts)) in
    let both = met-append record { variable = x; mark = mark.Loop k } ((L s).met_on_resume r) (flat_map (λ (one : Layout × Residual). one.0.met_on_resume one.1) (resting (map L parts) branches)) in
    let one = h.0.turned x r k (omega (arith, all, e)) in
    let more = branches_turned parts branches h.1 x k (omega (arith, all, e)) in
    omega (arith, both, one, more)

once_parallel : (parts : List Stmt) → AllByRecursion IsOnce parts → Once (parallel_layout (map L parts)) (concat (map locals_of parts)) (concat (map loops_of parts))
once_parallel parts h = record {
  start = λ i m. starts_times parts h i m;
  resume = λ i r. branches_times parts (branches_of r) h i;
  turned = λ x r k e. branches_turned parts (branches_of r) h x k e;
}

abbrev Distinct : List ℕ → Type 0
Distinct numbers = (k : ℕ) → times k numbers ≤ 1

abbrev Claimed : Type 0
Claimed = (s : Stmt) × (Distinct (loops_of s) → IsOnce s)

abbrev names : List Claimed → List Stmt
names parts = map (λ (e : Claimed). e.0) parts

all_once : (parts : List Claimed) → Distinct (concat (map loops_of (names parts))) → AllByRecursion IsOnce (names parts)
all_once [] h = tt
all_once (e ∷ parts) h = (
  e.1 (λ k. let all = times-append k (loops_of e.0) (concat (map loops_of (names parts))) in let most = h k in omega (arith, all, most)),
  all_once parts (λ k. let all = times-append k (loops_of e.0) (concat (map loops_of (names parts))) in let most = h k in omega (arith, all, most)),
)

abbrev node_locals : Stmt-F (List ℕ) → List ℕ
node_locals node = own_locals node ++ concat (parts_of node)

abbrev node_loops : Stmt-F (List ℕ) → List ℕ
node_loops node = own_loops node ++ concat (parts_of node)

abbrev AtNode : Stmt-F Stmt → Type 0
AtNode x =
    Distinct (node_loops (map-Stmt Stmt (List ℕ) loops_of x))
    → Once (node_layout (λ number. bare) (map-Stmt Stmt Layout L x)) (node_locals (map-Stmt Stmt (List ℕ) locals_of x)) (node_loops (map-Stmt Stmt (List ℕ) loops_of x))

front : (xs : List ℕ) → Distinct (xs ++ []) → Distinct xs
front xs h = subst Distinct (append-nil xs) h

at_node : (node : Stmt-F Claimed) → AtNode (map-Stmt Claimed Stmt (λ e. e.0) node)
at_node Stmt-F.Nothing h = once_bare
at_node (Stmt-F.Assign target value) h = once_bare
at_node (Stmt-F.Delayed target value) h = once_bare
at_node (Stmt-F.Pause place) h = once_pause place
at_node (Stmt-F.Seq parts) h = once_sequence (names parts) (all_once parts h)
at_node (Stmt-F.Par parts) h = once_parallel (names parts) (all_once parts h)
at_node (Stmt-F.If condition first second) h =
    let both = λ (k : ℕ). times-append k (loops_of first.0) (loops_of second.0 ++ []) in
    once_choice _ _ _ _ _ _ (first.1 (λ k. let all = both k in let most = h k in omega (arith, all, most)))
    (second.1 (front _ (λ k. let all = both k in let most = h k in omega (arith, all, most))))
at_node (Stmt-F.Loop number body condition) h =
    only_loop number (L body.0) (locals_of body.0) (loops_of body.0) (body.1 (front _ (λ k. let most = h k in omega (arith, most)))) (h number)
  where
    only_loop : (number : ℕ) (l : Layout) (locals loops : List ℕ) → Once l locals loops → times number (number ∷ (loops ++ [])) ≤ 1
        → Once (loop_layout number l) (locals ++ []) (number ∷ (loops ++ []))
    only_loop number l locals loops x once = once_loop number l (locals ++ []) (loops ++ []) (only_part l locals loops x) once
at_node (Stmt-F.Abort kind body condition) h = once_body _ _ _ (only_part _ _ _ (body.1 (front _ h)))
at_node (Stmt-F.Suspend kind hold body condition) h = once_suspend hold _ _ _ (only_part _ _ _ (body.1 (front _ h)))
at_node (Stmt-F.Scope locals body) h = once_scope locals _ _ _ (only_part _ _ _ (body.1 (front _ h)))
at_node (Stmt-F.Call number proto arguments) h = once_bare
at_node (Stmt-F.Bind bindings body) h = only_part _ _ _ (body.1 (front _ h))

-- for every statement whose loops have numbers of their own
pub walks_meet_once : (s : Stmt) → Distinct (loops_of s) → IsOnce s
walks_meet_once = ind-Stmt (λ s. Distinct (loops_of s) → IsOnce s) (λ x y is h.
    subst (λ l. Once l (locals_of (roll-Stmt x)) (loops_of (roll-Stmt x))) (sym (fold-roll-Stmt Layout (node_layout (λ number. bare)) x))
    (subst₂ (Once (node_layout (λ number. bare) (map-Stmt Stmt Layout L x))) (sym (fold-roll-Stmt (List ℕ) node_locals x)) (sym (fold-roll-Stmt (List ℕ) node_loops x))
    (subst AtNode is (at_node y) (subst Distinct (fold-roll-Stmt (List ℕ) node_loops x) h))))
