-- Each instance that a step meets is one of the program's.
use Rattle.std.proofs.Common.{◌≡◌, ℕ, zero, suc, ◌+◌, ◌≤◌, Bool, true, false, List, [], ◌∷◌, ◌++◌, map, drop, Option, Some, None, refl, sym, ap, subst, ◌∙◌, ◌⊎◌, inl, inr, arith}
use Rattle.std.specs.Prelude.{◌==◌, ◌||◌, if◌then◌else◌, is_some, unwrap_or}
use Rattle.std.specs.Option.{option_map, option_or}
use Rattle.std.specs.List.{flat_map, concat, AllByRecursion}
use Rattle.std.proofs.lemmas.Bool.{false≢true}
use Rattle.std.proofs.lemmas.List.{append-nil}
use Rattle.qz_syntax.specs.declared.statements.Stmt.{Stmt, map-Stmt, roll-Stmt}
use Rattle.qz_syntax.specs.declared.statements.Stmt.TheOpen.{Stmt-F}
use Rattle.qz_syntax.specs.declared.statements.Stmt.TheFolds.{fold-roll-Stmt, ind-Stmt}
use Rattle.qz_syntax.specs.declared.places.Mark.{Mark}
use Rattle.qz_syntax.specs.declared.places.Mark.TheVariants as mark
use Rattle.qz_syntax.specs.declared.places.Store.{Store}
use Rattle.qz_syntax.specs.declared.places.Residual.{Residual}
use Rattle.qz_syntax.specs.Numbers.{contains, parts_of, own_locals, locals_of}
use Rattle.qz_syntax.specs.Marks.{first_some, node_loops_round, loops_round}
use Rattle.qz_meaning.specs.Instances.{local_instance}
use Rattle.qz_meaning.specs.Residuals.{inner, member_of, branches_of, side_of, is_held, stores_of}
use Rattle.qz_meaning.specs.Layouts.{Met, Layout, bare}
use Rattle.qz_meaning.specs.Sequences.{member, sequence_layout}
use Rattle.qz_meaning.specs.Parallels.{resting, parallel_layout}
use Rattle.qz_meaning.specs.Choices.{choice_layout}
use Rattle.qz_meaning.specs.Loops.{loop_layout}
use Rattle.qz_meaning.specs.Aborts.{body_layout}
use Rattle.qz_meaning.specs.Suspends.{suspend_layout}
use Rattle.qz_meaning.specs.Scopes.{met_new, met_kept, scope_layout}
use Rattle.qz_meaning.specs.Walks.{node_layout, layout}
use Rattle.qz_meaning.specs.Programs.{times}
use Rattle.qz_meaning.proofs.Lists.{all_parts, all_join, all_if}
use Rattle.qz_meaning.proofs.MetOnce.{times-append}

-- an instance that a start meets: of a local of the statement, with the mark of the start
pub record StartMet (locals : List ℕ) (m : Mark) (one : Met) : Type 0 where
  pub number : ℕ
  pub is : one.instance ≡ local_instance number m
  pub own : 1 ≤ times number locals

-- the marks that an instance met on a resume can have: zero, or that of a loop round the local
abbrev pub IsMark : Option (List ℕ) → Mark → Type 0
IsMark round m = (m ≡ mark.Zero) ⊎ ((q : ℕ) × (m ≡ mark.Loop q) × (1 ≤ times q (unwrap_or round [])))

pub record ResumeMet (locals : List ℕ) (round : ℕ → Option (List ℕ)) (one : Met) : Type 0 where
  pub number : ℕ
  pub by_mark : Mark
  pub is : one.instance ≡ local_instance number by_mark
  pub own : 1 ≤ times number locals
  pub marked : IsMark (round number) by_mark

abbrev pub Starts : List ℕ → Mark → List Met → Type 0
Starts locals m met = AllByRecursion (StartMet locals m) met

abbrev pub Resumes : List ℕ → (ℕ → Option (List ℕ)) → List Met → Type 0
Resumes locals round met = AllByRecursion (ResumeMet locals round) met

abbrev pub Once : List ℕ → Type 0
Once locals = (n : ℕ) → times n locals ≤ 1

pub record IsNumberedIn (l : Layout) (locals : List ℕ) (round : ℕ → Option (List ℕ)) : Type 0 where
  pub none : (n : ℕ) → times n locals ≡ 0 → round n ≡ None
  pub some : (n : ℕ) → 1 ≤ times n locals → is_some (round n) ≡ true
  pub start : (m : Mark) → Starts locals m (l.met_on_start m)
  pub resume : Once locals → (r : Residual) → Resumes locals round (l.met_on_resume r)

start_more : (xs ys : List ℕ) (m : Mark) (met : List Met) → ((n : ℕ) → times n xs ≤ times n ys) → Starts xs m met → Starts ys m met
start_more xs ys m [] less all = tt
start_more xs ys m (one ∷ met) less all = (
  (let it = all.0 in let own = it.own in let more = less it.number in record { number = it.number; is = it.is; own = omega (arith, own, more) }),
  start_more xs ys m met less all.1,
)

resume_more : (xs ys : List ℕ) (f g : ℕ → Option (List ℕ)) (met : List Met) → ((n : ℕ) → times n xs ≤ times n ys)
    → ((n q : ℕ) → 1 ≤ times n xs → 1 ≤ times q (unwrap_or (f n) []) → 1 ≤ times q (unwrap_or (g n) [])) → Resumes xs f met → Resumes ys g met
resume_more xs ys f g [] less same all = tt
resume_more xs ys f g (one ∷ met) less same all = (
  (let it = all.0 in let own = it.own in let more = less it.number in
      record { number = it.number; by_mark = it.by_mark; is = it.is; own = omega (arith, own, more); marked = marks (f it.number) (g it.number) it.by_mark it.marked (λ q k. same it.number q own k) }),
  resume_more xs ys f g met less same all.1,
) where
  marks : (a b : Option (List ℕ)) (m : Mark) → IsMark a m → ((q : ℕ) → 1 ≤ times q (unwrap_or a []) → 1 ≤ times q (unwrap_or b [])) → IsMark b m
  marks a b m (inl zero_mark) later = inl zero_mark
  marks a b m (inr (q, is, k)) later = inr (q, is, later q k)

as_resume : (xs : List ℕ) (f : ℕ → Option (List ℕ)) (met : List Met) → Starts xs mark.Zero met → Resumes xs f met
as_resume xs f [] all = tt
as_resume xs f (one ∷ met) all =
    (let it = all.0 in record { number = it.number; by_mark = mark.Zero; is = it.is; own = it.own; marked = inl refl }, as_resume xs f met all.1)

left_less : (xs ys : List ℕ) (n : ℕ) → times n xs ≤ times n (xs ++ ys)
left_less xs ys n = let all = times-append n xs ys in omega (arith, all)

right_less : (xs ys : List ℕ) (n : ℕ) → times n ys ≤ times n (xs ++ ys)
right_less xs ys n = let all = times-append n xs ys in omega (arith, all)

once_left : (xs ys : List ℕ) → Once (xs ++ ys) → Once xs
once_left xs ys once n = let all = times-append n xs ys in let one = once n in omega (arith, all, one)

once_right : (xs ys : List ℕ) → Once (xs ++ ys) → Once ys
once_right xs ys once n = let all = times-append n xs ys in let one = once n in omega (arith, all, one)

-- of two parts the first answers where it has the local
or_first : (a b : Option (List ℕ)) (q : ℕ) → 1 ≤ times q (unwrap_or a []) → 1 ≤ times q (unwrap_or (option_or a b) [])
or_first (Some xs) b q h = h
or_first None b q h = absurd (omega (arith, h))

or_second : (a b : Option (List ℕ)) (q : ℕ) → a ≡ None → 1 ≤ times q (unwrap_or b []) → 1 ≤ times q (unwrap_or (option_or a b) [])
or_second a b q e h = subst (λ (o : Option (List ℕ)). 1 ≤ times q (unwrap_or (option_or o b) [])) (sym e) h

or_none : (a b : Option (List ℕ)) → a ≡ None → b ≡ None → option_or a b ≡ None
or_none a b e f = ap (λ (o : Option (List ℕ)). option_or o b) e ∙ f

or_some_first : (a b : Option (List ℕ)) → is_some a ≡ true → is_some (option_or a b) ≡ true
or_some_first (Some xs) b h = refl
or_some_first None b h = absurd (false≢true h)

or_some_second : (a b : Option (List ℕ)) → is_some b ≡ true → is_some (option_or a b) ≡ true
or_some_second (Some xs) b h = refl
or_some_second None b h = h

resume_left : (xs ys : List ℕ) (f g : ℕ → Option (List ℕ)) (met : List Met) → Resumes xs f met → Resumes (xs ++ ys) (λ n. option_or (f n) (g n)) met
resume_left xs ys f g met all = resume_more xs (xs ++ ys) f (λ n. option_or (f n) (g n)) met (left_less xs ys) (λ n q own k. or_first (f n) (g n) q k) all

resume_right : (xs ys : List ℕ) (f g : ℕ → Option (List ℕ)) (met : List Met) → Once (xs ++ ys) → ((n : ℕ) → times n xs ≡ 0 → f n ≡ None) → Resumes ys g met
    → Resumes (xs ++ ys) (λ n. option_or (f n) (g n)) met
resume_right xs ys f g met once none all = resume_more ys (xs ++ ys) g (λ n. option_or (f n) (g n)) met (right_less xs ys)
    (λ n q own k. or_second (f n) (g n) q (none n (let all = times-append n xs ys in let one = once n in omega (arith, all, one, own))) k) all

none_both : (xs ys : List ℕ) (f g : ℕ → Option (List ℕ)) → ((n : ℕ) → times n xs ≡ 0 → f n ≡ None) → ((n : ℕ) → times n ys ≡ 0 → g n ≡ None)
    → (n : ℕ) → times n (xs ++ ys) ≡ 0 → option_or (f n) (g n) ≡ None
none_both xs ys f g h k n e =
    let all = times-append n xs ys in
    or_none (f n) (g n) (h n (omega (arith, all, e))) (k n (omega (arith, all, e)))

some_both : (xs ys : List ℕ) (f g : ℕ → Option (List ℕ)) → ((n : ℕ) → 1 ≤ times n xs → is_some (f n) ≡ true) → ((n : ℕ) → 1 ≤ times n ys → is_some (g n) ≡ true)
    → (n : ℕ) → 1 ≤ times n (xs ++ ys) → is_some (option_or (f n) (g n)) ≡ true
some_both xs ys f g h k n e = by (times n xs) refl where
  by : (t : ℕ) → times n xs ≡ t → is_some (option_or (f n) (g n)) ≡ true
  by zero is = let all = times-append n xs ys in or_some_second (f n) (g n) (k n (omega (arith, all, e, is)))
  by (suc t) is = or_some_first (f n) (g n) (h n (omega (arith, is)))

numbered_bare : IsNumberedIn bare [] (λ n. None)
numbered_bare = record { none = λ n e. refl; some = λ n h. absurd (omega (arith, h)); start = λ m. tt; resume = λ once r. tt }

numbered_body : (l : Layout) (xs : List ℕ) (f : ℕ → Option (List ℕ)) → IsNumberedIn l xs f → IsNumberedIn (body_layout l) xs f
numbered_body l xs f s = record { none = s.none; some = s.some; start = λ m. s.start m; resume = λ once r. s.resume once (inner r) }

numbered_suspend : (hold : Option ℕ) (l : Layout) (xs : List ℕ) (f : ℕ → Option (List ℕ)) → IsNumberedIn l xs f → IsNumberedIn (suspend_layout hold l) xs f
numbered_suspend hold l xs f s = record {
  none = s.none;
  some = s.some;
  start = λ m. s.start m;
  resume = λ once r.
      all_if (ResumeMet xs f) (is_held r) (l.met_on_start mark.Zero) (l.met_on_resume (inner r)) (as_resume xs f (l.met_on_start mark.Zero) (s.start mark.Zero))
      (s.resume once (inner r));
}

-- a loop's mark is that of a loop round each local in it
looped : (number : ℕ) (o : Option (List ℕ)) → is_some o ≡ true → 1 ≤ times number (unwrap_or (option_map (λ (xs : List ℕ). number ∷ xs) o) [])
looped number None h = absurd (false≢true h)
looped number (Some xs) h =
    let one : (if number == number then 1 else 0) ≡ 1 = ap {B = ℕ} (λ (t : Bool). if t then 1 else 0) (let e : (number == number) ≡ true = grind arith in e) in
    omega (arith, one)

more_loops : (number : ℕ) (o : Option (List ℕ)) (q : ℕ) → 1 ≤ times q (unwrap_or o []) → 1 ≤ times q (unwrap_or (option_map (λ (xs : List ℕ). number ∷ xs) o) [])
more_loops number None q h = absurd (omega (arith, h))
more_loops number (Some xs) q h = omega (arith, h)

loop_starts : (number : ℕ) (xs : List ℕ) (f : ℕ → Option (List ℕ)) → ((n : ℕ) → 1 ≤ times n xs → is_some (f n) ≡ true) → (met : List Met)
    → Starts xs (mark.Loop number) met → Resumes xs (λ n. option_map (λ (inside : List ℕ). number ∷ inside) (f n)) met
loop_starts number xs f some [] all = tt
loop_starts number xs f some (one ∷ met) all = (
  (let it = all.0 in
      record { number = it.number; by_mark = mark.Loop number; is = it.is; own = it.own; marked = inr (number, refl, looped number (f it.number) (some it.number it.own)) }),
  loop_starts number xs f some met all.1,
)

numbered_loop : (number : ℕ) (l : Layout) (xs : List ℕ) (f : ℕ → Option (List ℕ)) → IsNumberedIn l xs f
    → IsNumberedIn (loop_layout number l) xs (λ n. option_map (λ (inside : List ℕ). number ∷ inside) (f n))
numbered_loop number l xs f s = record {
  none = λ n e. ap (option_map (λ (inside : List ℕ). number ∷ inside)) (s.none n e);
  some = λ n h. mapped (f n) (s.some n h);
  start = λ m. s.start m;
  resume = λ once r.
      all_join (ResumeMet xs (λ n. option_map (λ (inside : List ℕ). number ∷ inside) (f n))) (l.met_on_resume (inner r)) (l.met_on_start (mark.Loop number))
      (resume_more xs xs f (λ n. option_map (λ (inside : List ℕ). number ∷ inside) (f n)) (l.met_on_resume (inner r)) (λ n. omega arith)
      (λ n q own k. more_loops number (f n) q k) (s.resume once (inner r)))
      (loop_starts number xs f s.some (l.met_on_start (mark.Loop number)) (s.start (mark.Loop number)));
} where
  mapped : (o : Option (List ℕ)) → is_some o ≡ true → is_some (option_map (λ (inside : List ℕ). number ∷ inside) o) ≡ true
  mapped (Some inside) h = refl
  mapped None h = h

numbered_choice : (l k : Layout) (xs ys : List ℕ) (f g : ℕ → Option (List ℕ)) → IsNumberedIn l xs f → IsNumberedIn k ys g
    → IsNumberedIn (choice_layout l k) (xs ++ ys) (λ n. option_or (f n) (g n))
numbered_choice l k xs ys f g s t = record {
  none = none_both xs ys f g s.none t.none;
  some = some_both xs ys f g s.some t.some;
  start = λ m.
      all_join (StartMet (xs ++ ys) m) (l.met_on_start m) (k.met_on_start m) (start_more xs (xs ++ ys) m (l.met_on_start m) (left_less xs ys) (s.start m))
      (start_more ys (xs ++ ys) m (k.met_on_start m) (right_less xs ys) (t.start m));
  resume = λ once r. by_side once (side_of r) (inner r);
} where
  by_side : Once (xs ++ ys) → (side : Bool) (r : Residual) → Resumes (xs ++ ys) (λ n. option_or (f n) (g n)) ((if side then l else k).met_on_resume r)
  by_side once true r = resume_left xs ys f g (l.met_on_resume r) (s.resume (once_left xs ys once) r)
  by_side once false r = resume_right xs ys f g (k.met_on_resume r) once s.none (t.resume (once_right xs ys once) r)

-- a scope's own locals
own_start : (locals more : List ℕ) (m : Mark) → ((n : ℕ) → times n locals ≤ times n more) → Starts more m (met_new locals m)
own_start [] more m less = tt
own_start (x ∷ locals) more m less = (
  (let one : (if x == x then 1 else 0) ≡ 1 = ap {B = ℕ} (λ (t : Bool). if t then 1 else 0) (let e : (x == x) ≡ true = grind arith in e) in
      let all = less x in
      record { number = x; is = refl; own = omega (arith, one, all) }),
  own_start locals more m (λ n. let all = less n in omega (arith, all)),
)

own_resume : (locals more : List ℕ) (f : ℕ → Option (List ℕ)) (stores : List Store) → ((n : ℕ) → times n locals ≤ times n more) → Resumes more f (met_kept locals stores)
own_resume [] more f stores less = tt
own_resume (x ∷ locals) more f [] less = tt
own_resume (x ∷ locals) more f (s ∷ stores) less = (
  (let one : (if x == x then 1 else 0) ≡ 1 = ap {B = ℕ} (λ (t : Bool). if t then 1 else 0) (let e : (x == x) ≡ true = grind arith in e) in
      let all = less x in
      record { number = x; by_mark = mark.Zero; is = refl; own = omega (arith, one, all); marked = inl refl }),
  own_resume locals more f stores (λ n. let all = less n in omega (arith, all)),
)

pub has_times : (xs : List ℕ) (n : ℕ) → contains xs n ≡ true → 1 ≤ times n xs
has_times [] n h = absurd (false≢true h)
has_times (x ∷ xs) n h = by (x == n) h (λ k. has_times xs n k) where
  by : (t : Bool) → (t || contains xs n) ≡ true → (contains xs n ≡ true → 1 ≤ times n xs) → 1 ≤ (if t then 1 else 0) + times n xs
  by true k later = omega arith
  by false k later = let one = later k in omega (arith, one)

times_has : (xs : List ℕ) (n : ℕ) → 1 ≤ times n xs → contains xs n ≡ true
times_has [] n h = absurd (omega (arith, h))
times_has (x ∷ xs) n h = by (x == n) h (λ k. times_has xs n k) where
  by : (t : Bool) → 1 ≤ (if t then 1 else 0) + times n xs → (1 ≤ times n xs → contains xs n ≡ true) → (t || contains xs n) ≡ true
  by true k later = refl
  by false k later = later (omega (arith, k))

numbered_scope : (locals : List ℕ) (l : Layout) (xs : List ℕ) (f : ℕ → Option (List ℕ)) → IsNumberedIn l xs f
    → IsNumberedIn (scope_layout locals l) (locals ++ xs) (λ n. if contains locals n then Some [] else f n)
numbered_scope locals l xs f s = record {
  none = λ n e. let all = times-append n locals xs in out n (contains locals n) refl (omega (arith, all, e)) (s.none n (omega (arith, all, e)));
  some = λ n h. inside n h (contains locals n) refl;
  start = λ m.
      all_join (StartMet (locals ++ xs) m) (met_new locals m) (l.met_on_start m) (own_start locals (locals ++ xs) m (left_less locals xs))
      (start_more xs (locals ++ xs) m (l.met_on_start m) (right_less locals xs) (s.start m));
  resume = λ once r.
      all_join (ResumeMet (locals ++ xs) (λ n. if contains locals n then Some [] else f n)) (met_kept locals (stores_of r)) (l.met_on_resume (inner r))
      (own_resume locals (locals ++ xs) (λ n. if contains locals n then Some [] else f n) (stores_of r) (left_less locals xs))
      (resume_more xs (locals ++ xs) f (λ n. if contains locals n then Some [] else f n) (l.met_on_resume (inner r)) (right_less locals xs)
      (λ n q own k. apart once n q own k (contains locals n) refl) (s.resume (once_right locals xs once) (inner r)));
} where
  out : (n : ℕ) (t : Bool) → contains locals n ≡ t → times n locals ≡ 0 → f n ≡ None → (if t then Some [] else f n) ≡ None
  out n true is e none = let one = has_times locals n is in absurd (omega (arith, one, e))
  out n false is e none = none

  inside : (n : ℕ) → 1 ≤ times n (locals ++ xs) → (t : Bool) → contains locals n ≡ t → is_some (if t then Some [] else f n) ≡ true
  inside n h true is = refl
  inside n h false is = s.some n (by (times n locals) refl) where
    by : (k : ℕ) → times n locals ≡ k → 1 ≤ times n xs
    by zero e = let all = times-append n locals xs in omega (arith, all, h, e)
    by (suc k) e = absurd (false≢true (sym is ∙ times_has locals n (omega (arith, e))))

  apart : Once (locals ++ xs) → (n q : ℕ) → 1 ≤ times n xs → 1 ≤ times q (unwrap_or (f n) []) → (t : Bool) → contains locals n ≡ t
      → 1 ≤ times q (unwrap_or (if t then Some [] else f n) [])
  apart once n q own k true is =
      let all = times-append n locals xs in let one = once n in let two = has_times locals n is in absurd (omega (arith, all, one, two, own))
  apart once n q own k false is = k

-- members of a sequence and of a parallel
abbrev pub L : Stmt → Layout
L = layout (λ number. bare)

abbrev pub V : Stmt → List ℕ
V = locals_of

abbrev pub F : Stmt → ℕ → Option (List ℕ)
F s n = loops_round n s

abbrev AllNumbered : List Stmt → Type 0
AllNumbered parts = AllByRecursion (λ s. IsNumberedIn (L s) (V s) (F s)) parts

abbrev locals_all : List Stmt → List ℕ
locals_all parts = concat (map V parts)

abbrev round_all : List Stmt → ℕ → Option (List ℕ)
round_all parts n = first_some (map (loops_round n) parts)

none_all : (parts : List Stmt) → AllNumbered parts → (n : ℕ) → times n (locals_all parts) ≡ 0 → round_all parts n ≡ None
none_all [] all n e = refl
none_all (s ∷ parts) all n e = none_both (V s) (locals_all parts) (F s) (round_all parts) all.0.none (none_all parts all.1) n e

some_all : (parts : List Stmt) → AllNumbered parts → (n : ℕ) → 1 ≤ times n (locals_all parts) → is_some (round_all parts n) ≡ true
some_all [] all n h = absurd (omega (arith, h))
some_all (s ∷ parts) all n h = some_both (V s) (locals_all parts) (F s) (round_all parts) all.0.some (some_all parts all.1) n h

start_all : (parts : List Stmt) → AllNumbered parts → (m : Mark) → Starts (locals_all parts) m (flat_map (λ (part : Layout). part.met_on_start m) (map L parts))
start_all [] all m = tt
start_all (s ∷ parts) all m =
    all_join (StartMet (locals_all (s ∷ parts)) m) ((L s).met_on_start m) (flat_map (λ (part : Layout). part.met_on_start m) (map L parts))
    (start_more (V s) (V s ++ locals_all parts) m _ (left_less (V s) (locals_all parts)) (all.0.start m))
    (start_more (locals_all parts) (V s ++ locals_all parts) m _ (right_less (V s) (locals_all parts)) (start_all parts all.1 m))

all_dropped : (P : Met → Type 0) (ls : List Layout) (k : ℕ) (m : Mark) → AllByRecursion P (flat_map (λ (part : Layout). part.met_on_start m) ls)
    → AllByRecursion P (flat_map (λ (part : Layout). part.met_on_start m) (drop k ls))
all_dropped P ls zero m h = h
all_dropped P [] (suc k) m h = tt
all_dropped P (l ∷ ls) (suc k) m h = all_dropped P ls k m (all_parts P (l.met_on_start m) _ h).1

member_resumes : (parts : List Stmt) → AllNumbered parts → Once (locals_all parts) → (k : ℕ) (r : Residual)
    → Resumes (locals_all parts) (round_all parts) ((member bare (map L parts) k).met_on_resume r)
member_resumes [] all once k r = tt
member_resumes (s ∷ parts) all once zero r =
    resume_left (V s) (locals_all parts) (F s) (round_all parts) ((L s).met_on_resume r) (all.0.resume (once_left (V s) (locals_all parts) once) r)
member_resumes (s ∷ parts) all once (suc k) r =
    resume_right (V s) (locals_all parts) (F s) (round_all parts) _ once all.0.none (member_resumes parts all.1 (once_right (V s) (locals_all parts) once) k r)

numbered_sequence : (parts : List Stmt) → AllNumbered parts → IsNumberedIn (sequence_layout (map L parts)) (locals_all parts) (round_all parts)
numbered_sequence parts all = record {
  none = none_all parts all;
  some = some_all parts all;
  start = start_all parts all;
  resume = λ once r.
      all_join (ResumeMet (locals_all parts) (round_all parts)) ((member bare (map L parts) (member_of r)).met_on_resume (inner r)) _
      (member_resumes parts all once (member_of r) (inner r))
      (as_resume (locals_all parts) (round_all parts) _ (all_dropped (StartMet (locals_all parts) mark.Zero) (map L parts) (member_of r + 1) mark.Zero (start_all parts all mark.Zero)));
}

branches_resume : (parts : List Stmt) → AllNumbered parts → Once (locals_all parts) → (branches : List (Option Residual))
    → Resumes (locals_all parts) (round_all parts) (flat_map (λ (one : Layout × Residual). one.0.met_on_resume one.1) (resting (map L parts) branches))
branches_resume [] all once branches = tt
branches_resume (s ∷ parts) all once [] = tt
branches_resume (s ∷ parts) all once (None ∷ branches) =
    resume_right (V s) (locals_all parts) (F s) (round_all parts) _ once all.0.none (branches_resume parts all.1 (once_right (V s) (locals_all parts) once) branches)
branches_resume (s ∷ parts) all once (Some r ∷ branches) =
    all_join (ResumeMet (locals_all (s ∷ parts)) (round_all (s ∷ parts))) ((L s).met_on_resume r) _
    (resume_left (V s) (locals_all parts) (F s) (round_all parts) ((L s).met_on_resume r) (all.0.resume (once_left (V s) (locals_all parts) once) r))
    (resume_right (V s) (locals_all parts) (F s) (round_all parts) _ once all.0.none (branches_resume parts all.1 (once_right (V s) (locals_all parts) once) branches))

numbered_parallel : (parts : List Stmt) → AllNumbered parts → IsNumberedIn (parallel_layout (map L parts)) (locals_all parts) (round_all parts)
numbered_parallel parts all = record {
  none = none_all parts all;
  some = some_all parts all;
  start = start_all parts all;
  resume = λ once r. branches_resume parts all once (branches_of r);
}

abbrev Claimed : Type 0
Claimed = (s : Stmt) × IsNumberedIn (L s) (V s) (F s)

abbrev names : List Claimed → List Stmt
names parts = map (λ (e : Claimed). e.0) parts

all_numbered : (parts : List Claimed) → AllNumbered (names parts)
all_numbered [] = tt
all_numbered (e ∷ parts) = (e.1, all_numbered parts)

abbrev node_locals : Stmt-F (List ℕ) → List ℕ
node_locals node = own_locals node ++ concat (parts_of node)

abbrev node_rounds : Stmt-F Stmt → ℕ → Option (List ℕ)
node_rounds x n = node_loops_round n (map-Stmt Stmt (Option (List ℕ)) (loops_round n) x)

abbrev AtNode : Stmt-F Stmt → Type 0
AtNode x = IsNumberedIn (node_layout (λ number. bare) (map-Stmt Stmt Layout L x)) (node_locals (map-Stmt Stmt (List ℕ) V x)) (node_rounds x)

with_nil : (l : Layout) (xs : List ℕ) (f : ℕ → Option (List ℕ)) → IsNumberedIn l xs f → IsNumberedIn l (xs ++ []) f
with_nil l xs f h = subst (λ (ys : List ℕ). IsNumberedIn l ys f) (sym (append-nil xs)) h

at_node : (node : Stmt-F Claimed) → AtNode (map-Stmt Claimed Stmt (λ e. e.0) node)
at_node Stmt-F.Nothing = numbered_bare
at_node (Stmt-F.Assign target value) = numbered_bare
at_node (Stmt-F.Delayed target value) = numbered_bare
at_node (Stmt-F.Pause place) = record { none = λ n e. refl; some = λ n h. absurd (omega (arith, h)); start = λ m. tt; resume = λ once r. tt }
at_node (Stmt-F.Seq parts) = numbered_sequence (names parts) (all_numbered parts)
at_node (Stmt-F.Par parts) = numbered_parallel (names parts) (all_numbered parts)
at_node (Stmt-F.If condition first second) =
    subst (λ (ys : List ℕ). IsNumberedIn (choice_layout (L first.0) (L second.0)) (V first.0 ++ ys) (λ n. option_or (F first.0 n) (F second.0 n))) (sym (append-nil (V second.0)))
    (numbered_choice _ _ _ _ _ _ first.1 second.1)
at_node (Stmt-F.Loop number body condition) = with_nil _ _ _ (numbered_loop number _ _ _ body.1)
at_node (Stmt-F.Abort kind body condition) = with_nil _ _ _ (numbered_body _ _ _ body.1)
at_node (Stmt-F.Suspend kind hold body condition) = with_nil _ _ _ (numbered_suspend hold _ _ _ body.1)
at_node (Stmt-F.Scope locals body) =
    subst (λ (ys : List ℕ). IsNumberedIn (scope_layout locals (L body.0)) (locals ++ ys) (λ n. if contains locals n then Some [] else F body.0 n)) (sym (append-nil (V body.0)))
    (numbered_scope locals _ _ _ body.1)
at_node (Stmt-F.Call number proto arguments) = numbered_bare
at_node (Stmt-F.Bind bindings body) = with_nil _ _ _ body.1

pub statements_numbered : (s : Stmt) → IsNumberedIn (L s) (V s) (F s)
statements_numbered = ind-Stmt (λ s. IsNumberedIn (L s) (V s) (F s)) (λ x y is.
    let here : IsNumberedIn (node_layout (λ number. bare) (map-Stmt Stmt Layout L x)) (node_locals (map-Stmt Stmt (List ℕ) V x)) (node_rounds x) = subst AtNode is (at_node y) in
    let rolled : IsNumberedIn (L (roll-Stmt x)) (V (roll-Stmt x)) (node_rounds x) =
    subst (λ (i : List ℕ). IsNumberedIn (L (roll-Stmt x)) i (node_rounds x)) (sym (fold-roll-Stmt (List ℕ) node_locals x))
    (subst (λ (l : Layout). IsNumberedIn l (node_locals (map-Stmt Stmt (List ℕ) V x)) (node_rounds x)) (sym (fold-roll-Stmt Layout (node_layout (λ number. bare)) x)) here) in
    let same : (n : ℕ) → node_rounds x n ≡ F (roll-Stmt x) n = λ n. sym (fold-roll-Stmt (Option (List ℕ)) (node_loops_round n) x) in
    record {
      none = λ n e. sym (same n) ∙ rolled.none n e;
      some = λ n h. ap is_some (sym (same n)) ∙ rolled.some n h;
      start = rolled.start;
      resume = λ once r.
          resume_more (V (roll-Stmt x)) (V (roll-Stmt x)) (node_rounds x) (F (roll-Stmt x)) _ (λ n. omega arith)
          (λ n q own k. subst (λ (o : Option (List ℕ)). 1 ≤ times q (unwrap_or o [])) (same n) k) (rolled.resume once r);
    })
