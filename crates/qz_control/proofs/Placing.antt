-- What is kept of a context, changed at one place.
use Rattle.std.proofs.Common.{◌≡◌, ℕ, zero, suc, ◌+◌, ◌<◌, ◌≤◌, get_or, add-one, drop-cons, Bool, true, false, ◌||◌, ◌==◌, List, [], ◌∷◌, ◌++◌, length, drop, slice_index_or, slice_set, if◌then◌else◌, refl, sym, ap, ◌∙◌, arith}
use Rattle.std.proofs.Math.Path.{fun_ext}
use Rattle.std.proofs.lemmas.Bool.{eqb-true}
use lib.Dec.{eqb-suc-suc, eqb-suc-zero, eqb-zero-suc}
use Rattle.qz_values.specs.declared.Know.{Know}
use Rattle.qz_syntax.specs.declared.places.Mark.{Mark}
use Rattle.qz_syntax.specs.declared.places.Mark.TheVariants.{Zero}
use Rattle.qz_syntax.specs.Numbers.{contains}
use Rattle.qz_meaning.specs.Scenes.{Context, with_locals}
use Rattle.qz_control.specs.declared.marks.Marks.{Marks}
use Rattle.qz_control.specs.declared.marks.Covered.{Covered}
use Rattle.qz_control.specs.Contexts.{context_of, with_local, restored}

index_or-set : {A : Type 0} (xs : List A) (k : ℕ) (x d : A) (n : ℕ) → k < length xs
    → slice_index_or (slice_set xs k x) n d ≡ (if k == n then x else slice_index_or xs n d)
index_or-set [] k x d n h = absurd (omega arith)
index_or-set (y ∷ ys) zero x d zero h = refl
index_or-set (y ∷ ys) zero x d (suc n) h = rw (eqb-zero-suc n) refl
index_or-set (y ∷ ys) (suc k) x d zero h = rw (eqb-suc-zero k) refl
index_or-set (y ∷ ys) (suc k) x d (suc n) h = rw (eqb-suc-suc k n) (index_or-set ys k x d n (omega arith))

index_or-pad : {A : Type 0} (xs : List A) (d : A) (n : ℕ) → slice_index_or (xs ++ d ∷ []) n d ≡ slice_index_or xs n d
index_or-pad [] d zero = refl
index_or-pad [] d (suc n) = refl
index_or-pad (x ∷ xs) d zero = refl
index_or-pad (x ∷ xs) d (suc n) = index_or-pad xs d n

-- two contexts that say the same
same_context : (c d : Context) → ((n : ℕ) → c.marks n ≡ d.marks n) → ((n : ℕ) → c.bound n ≡ d.bound n) → c ≡ d
same_context c d marks bound =
    let one : c ≡ record { marks = d.marks; bound = c.bound } = ap (λ (f : ℕ → Mark). record { marks = f; bound = c.bound }) (fun_ext marks) in
    one ∙ ap (λ (f : ℕ → Know). record { marks = d.marks; bound = f }) (fun_ext bound)

pub padded : (before after : Marks) → after.of.items ≡ before.of.items ++ Zero ∷ [] → context_of after ≡ context_of before
unfolding context_of
padded before after marks =
    same_context (context_of after) (context_of before) (λ n. rw marks (index_or-pad before.of.items Zero n)) (λ n. refl)

pub put : (before after : Marks) (k : ℕ) (m : Mark) → after.of.items ≡ slice_set before.of.items k m
    → k < length before.of.items → context_of after ≡ with_local (context_of before) k m
unfolding context_of
put before after k m marks h =
    same_context (context_of after) (with_local (context_of before) k m)
    (λ n. rw marks (index_or-set before.of.items k m Zero n h)) (λ n. refl)

if_or : {A : Type 0} (a b : Bool) (x y : A) → (if b then x else (if a then x else y)) ≡ (if a || b then x else y)
if_or true true x y = refl
if_or true false x y = refl
if_or false true x y = refl
if_or false false x y = refl

-- locals are marked one by one
pub marked_one_more : (ctx : Context) (local : ℕ) (locals : List ℕ) (m : Mark)
    → with_locals (with_local ctx local m) locals m ≡ with_locals ctx (local ∷ locals) m
marked_one_more ctx local locals m =
    same_context (with_locals (with_local ctx local m) locals m) (with_locals ctx (local ∷ locals) m)
    (λ n. if_or (local == n) (contains locals n) m (ctx.marks n)) (λ n. refl)

-- one step of marking some locals
pub marking_step : (ctx after base : Context) (locals : List ℕ) (i local : ℕ) (m : Mark) → after ≡ with_local ctx local m
    → drop i locals ≡ local ∷ drop (i + 1) locals → with_locals ctx (drop i locals) m ≡ base → with_locals after (drop (i + 1) locals) m ≡ base
marking_step ctx after base locals i local m e cut h =
    ap (λ c. with_locals c (drop (i + 1) locals) m) e ∙ marked_one_more ctx local (drop (i + 1) locals) m
    ∙ ap (λ ls. with_locals ctx ls m) (sym cut) ∙ h

drop_past : (xs : List ℕ) (i : ℕ) → length xs ≤ i → drop i xs ≡ []
drop_past [] zero h = refl
drop_past [] (suc i) h = refl
drop_past (x ∷ xs) zero h = absurd (omega arith)
drop_past (x ∷ xs) (suc i) h = drop_past xs i (omega arith)

-- all locals are marked
pub marked_all : (ctx base : Context) (locals : List ℕ) (i : ℕ) (m : Mark) → length locals ≤ i
    → with_locals ctx (drop i locals) m ≡ base → ctx ≡ base
marked_all ctx base locals i m h e = ap (λ ls. with_locals ctx ls m) (sym (drop_past locals i h)) ∙ e

pub cut_at : (locals : List ℕ) (i : ℕ) → i < length locals → drop i locals ≡ get_or locals i 0 ∷ drop (i + 1) locals
cut_at locals i h = rw (add-one, drop-cons locals i 0)

if_back : {A : Type 0} (b : Bool) (x y z : A) → (b ≡ true → x ≡ z) → (if b then x else (if b then y else z)) ≡ z
if_back true x y z h = h refl
if_back false x y z h = refl

-- a mark that is set and set back
set_back : (ctx : Context) (local : ℕ) (m : Mark) → with_local (with_local ctx local m) local (ctx.marks local) ≡ ctx
set_back ctx local m =
    same_context (with_local (with_local ctx local m) local (ctx.marks local)) ctx
    (λ n. if_back (local == n) (ctx.marks local) m (ctx.marks n) (λ e. ap ctx.marks (eqb-true local n e))) (λ n. refl)

-- the last that was covered is back first
pub restored_last : (ctx : Context) (covered : List Covered) (one : Covered)
    → restored ctx (covered ++ one ∷ []) ≡ restored (with_local ctx one.local one.mark) covered
restored_last ctx [] one = refl
restored_last ctx (first ∷ covered) one = ap (λ c. with_local c first.local first.mark) (restored_last ctx covered one)

-- one more is marked and covered
pub covering_step : (ctx after base : Context) (covered : List Covered) (local : ℕ) (m : Mark) → after ≡ with_local ctx local m
    → restored ctx covered ≡ base → restored after (covered ++ record { local = local; mark = ctx.marks local } ∷ []) ≡ base
covering_step ctx after base covered local m e h =
    restored_last after covered (record { local = local; mark = ctx.marks local })
    ∙ ap (λ c. restored (with_local c local (ctx.marks local)) covered) e
    ∙ ap (λ c. restored c covered) (set_back ctx local m) ∙ h
