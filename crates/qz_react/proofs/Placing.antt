-- What is kept of a context, changed at one place.
use Rattle.std.proofs.Common.{◌≡◌, ℕ, zero, suc, ◌+◌, ◌<◌, ◌≤◌, get_or, add-one, drop-cons, Bool, true, false, ◌||◌, ◌==◌, List, [], ◌∷◌, ◌++◌, length, drop, slice_index_or, slice_set, vec_len, if◌then◌else◌, refl, sym, ap, ◌∙◌, arith}
use Rattle.std.proofs.Math.Path.{fun_ext}
use Rattle.std.proofs.lemmas.Bool.Decides.{nat_tests}
use Rattle.std.proofs.lemmas.Bool.{eqb-true}
use Rattle.std.specs.List.{list_any}
use lib.Dec.{eqb-suc-suc, eqb-suc-zero, eqb-zero-suc}
use Rattle.qz_values.specs.declared.Know.{Know}
use Rattle.qz_values.specs.declared.Know.TheVariants.{Known}
use Rattle.qz_values.specs.Values.{no}
use Rattle.qz_syntax.specs.declared.places.Mark.{Mark}
use Rattle.qz_syntax.specs.declared.places.Mark.TheVariants.{Zero}
use Rattle.qz_syntax.specs.Numbers.{contains}
use Rattle.qz_syntax.specs.declared.statements.Binding.{Binding}
use Rattle.qz_meaning.specs.Scenes.{Context, with_locals}
use Rattle.qz_react.specs.declared.here.Here.{Here}
use Rattle.qz_react.specs.Contexts.{context_of, with_local, with_argument, without_argument, without_arguments}

index_or-set : {A : Type 0} (xs : List A) (k : ℕ) (x d : A) (n : ℕ) → k < length xs
    → slice_index_or (slice_set xs k x) n d ≡ (if k == n then x else slice_index_or xs n d)
index_or-set [] k x d n h = absurd (omega arith)
index_or-set (y ∷ ys) zero x d zero h = refl
index_or-set (y ∷ ys) zero x d (suc n) h = rw (eqb-zero-suc n) refl
index_or-set (y ∷ ys) (suc k) x d zero h = rw (eqb-suc-zero k) refl
index_or-set (y ∷ ys) (suc k) x d (suc n) h = rw (eqb-suc-suc k n) (index_or-set ys k x d n (omega arith))

index_or-pad : {A : Type 0} (xs : List A) (d : A) (n : ℕ) → slice_index_or (xs ++ d ∷ []) n d ≡ slice_index_or xs n d
index_or-pad [] d zero = refl
index_or-pad [] d (suc n) = refl
index_or-pad (x ∷ xs) d zero = refl
index_or-pad (x ∷ xs) d (suc n) = index_or-pad xs d n

-- two contexts that say the same
same_context : (c d : Context) → ((n : ℕ) → c.marks n ≡ d.marks n) → ((n : ℕ) → c.bound n ≡ d.bound n) → c ≡ d
same_context c d marks bound =
    let one : c ≡ record { marks = d.marks; bound = c.bound } = ap (λ (f : ℕ → Mark). record { marks = f; bound = c.bound }) (fun_ext marks) in
    one ∙ ap (λ (f : ℕ → Know). record { marks = d.marks; bound = f }) (fun_ext bound)

pub padded_marks : (before after : Here) → after.marks.items ≡ before.marks.items ++ Zero ∷ [] → after.bound.items ≡ before.bound.items
    → context_of after ≡ context_of before
unfolding context_of
padded_marks before after marks bound =
    same_context (context_of after) (context_of before)
    (λ n. rw marks (index_or-pad before.marks.items Zero n)) (λ n. rw bound refl)

pub padded_arguments : (before after : Here) → after.marks.items ≡ before.marks.items → after.bound.items ≡ before.bound.items ++ Known no ∷ []
    → context_of after ≡ context_of before
unfolding context_of
padded_arguments before after marks bound =
    same_context (context_of after) (context_of before)
    (λ n. rw marks refl) (λ n. rw bound (index_or-pad before.bound.items (Known no) n))

pub put_mark : (before after : Here) (k : ℕ) (m : Mark) → after.marks.items ≡ slice_set before.marks.items k m → after.bound.items ≡ before.bound.items
    → k < length before.marks.items → context_of after ≡ with_local (context_of before) k m
unfolding context_of
put_mark before after k m marks bound h =
    same_context (context_of after) (with_local (context_of before) k m)
    (λ n. rw marks (index_or-set before.marks.items k m Zero n h)) (λ n. rw bound refl)

pub put_argument : (before after : Here) (k : ℕ) (known : Know) → after.marks.items ≡ before.marks.items → after.bound.items ≡ slice_set before.bound.items k known
    → k < length before.bound.items → context_of after ≡ with_argument (context_of before) k known
unfolding context_of
put_argument before after k known marks bound h =
    same_context (context_of after) (with_argument (context_of before) k known)
    (λ n. rw marks refl) (λ n. rw bound (index_or-set before.bound.items k known (Known no) n h))

if_or : {A : Type 0} (a b : Bool) (x y : A) → (if b then x else (if a then x else y)) ≡ (if a || b then x else y)
if_or true true x y = refl
if_or true false x y = refl
if_or false true x y = refl
if_or false false x y = refl

-- locals are marked one by one
pub marked_one_more : (ctx : Context) (local : ℕ) (locals : List ℕ) (m : Mark)
    → with_locals (with_local ctx local m) locals m ≡ with_locals ctx (local ∷ locals) m
marked_one_more ctx local locals m =
    same_context (with_locals (with_local ctx local m) locals m) (with_locals ctx (local ∷ locals) m)
    (λ n. if_or (local == n) (contains locals n) m (ctx.marks n)) (λ n. refl)

pub marked_none : (ctx : Context) (m : Mark) → with_locals ctx [] m ≡ ctx
marked_none ctx m = refl

if_twice : {A : Type 0} (b : Bool) (x y z : A) → (if b then x else (if b then y else z)) ≡ (if b then x else z)
if_twice true x y z = refl
if_twice false x y z = refl

-- the last marks count
pub marked_again : (ctx : Context) (locals : List ℕ) (m n : Mark) → with_locals (with_locals ctx locals m) locals n ≡ with_locals ctx locals n
marked_again ctx locals m n =
    same_context (with_locals (with_locals ctx locals m) locals n) (with_locals ctx locals n)
    (λ k. if_twice (contains locals k) n m (ctx.marks k)) (λ k. refl)

if_same : {A : Type 0} (b : Bool) (x y : A) → (b ≡ true → y ≡ x) → (if b then x else y) ≡ y
if_same true x y h = sym (h refl)
if_same false x y h = refl

-- a local that has mark zero may be marked so
pub marked_as_it_is : (ctx : Context) (local : ℕ) → ctx.marks local ≡ Zero → with_local ctx local Zero ≡ ctx
marked_as_it_is ctx local h =
    same_context (with_local ctx local Zero) ctx
    (λ n. if_same (local == n) Zero (ctx.marks n) (λ e. ap ctx.marks (sym (eqb-true local n e)) ∙ h)) (λ n. refl)

pub outside_one_more : (ctx : Context) (local : ℕ) (locals : List ℕ) → ctx.marks local ≡ Zero → with_locals ctx locals Zero ≡ ctx
    → with_locals ctx (local ∷ locals) Zero ≡ ctx
outside_one_more ctx local locals h e =
    sym (marked_one_more ctx local locals Zero) ∙ ap (λ c. with_locals c locals Zero) (marked_as_it_is ctx local h) ∙ e

-- an argument that isn't bound is known as at the root
pub known_as_it_is : (ctx : Context) (number : ℕ) (known : Know) → ctx.bound number ≡ known → with_argument ctx number known ≡ ctx
known_as_it_is ctx number known h =
    same_context (with_argument ctx number known) ctx (λ n. refl)
    (λ n. if_same (number == n) known (ctx.bound n) (λ e. ap ctx.bound (sym (eqb-true number n e)) ∙ h))

-- one step of marking some locals
pub marking_step : (ctx after base : Context) (locals : List ℕ) (i local : ℕ) (m : Mark) → after ≡ with_local ctx local m
    → drop i locals ≡ local ∷ drop (i + 1) locals → with_locals ctx (drop i locals) m ≡ base → with_locals after (drop (i + 1) locals) m ≡ base
marking_step ctx after base locals i local m e cut h =
    ap (λ c. with_locals c (drop (i + 1) locals) m) e ∙ marked_one_more ctx local (drop (i + 1) locals) m
    ∙ ap (λ ls. with_locals ctx ls m) (sym cut) ∙ h

-- what was marked is as before once it is marked zero again
pub left : (before ctx after : Context) (locals : List ℕ) (m : Mark) → after ≡ with_locals ctx locals Zero → ctx ≡ with_locals before locals m
    → with_locals before locals Zero ≡ before → after ≡ before
left before ctx after locals m e f h = e ∙ ap (λ c. with_locals c locals Zero) f ∙ marked_again before locals m Zero ∙ h

drop_past : (xs : List ℕ) (i : ℕ) → length xs ≤ i → drop i xs ≡ []
drop_past [] zero h = refl
drop_past [] (suc i) h = refl
drop_past (x ∷ xs) zero h = absurd (omega arith)
drop_past (x ∷ xs) (suc i) h = drop_past xs i (omega arith)

-- all locals are marked
pub marked_all : (ctx base : Context) (locals : List ℕ) (i : ℕ) (m : Mark) → length locals ≤ i
    → with_locals ctx (drop i locals) m ≡ base → ctx ≡ base
marked_all ctx base locals i m h e = ap (λ ls. with_locals ctx ls m) (sym (drop_past locals i h)) ∙ e

pub cut_at : (locals : List ℕ) (i : ℕ) → i < length locals → drop i locals ≡ get_or locals i 0 ∷ drop (i + 1) locals
cut_at locals i h = rw (add-one, drop-cons locals i 0)

two_set : (ctx : Context) (m : ℕ) (a b : Know) → with_argument (with_argument ctx m a) m b ≡ with_argument ctx m b
two_set ctx m a b =
    same_context (with_argument (with_argument ctx m a) m b) (with_argument ctx m b) (λ k. refl)
    (λ k. if_twice (m == k) b a (ctx.bound k))

if_swap : {A : Type 0} (a b : Bool) (x y : A) → (if a then x else (if b then x else y)) ≡ (if b then x else (if a then x else y))
if_swap true true x y = refl
if_swap true false x y = refl
if_swap false true x y = refl
if_swap false false x y = refl

swapped : (ctx : Context) (m n : ℕ) (k : Know) → with_argument (with_argument ctx m k) n k ≡ with_argument (with_argument ctx n k) m k
swapped ctx m n k =
    same_context (with_argument (with_argument ctx m k) n k) (with_argument (with_argument ctx n k) m k) (λ i. refl)
    (λ i. if_swap (n == i) (m == i) k (ctx.bound i))

freed_apart : (ctx : Context) (n : ℕ) (bindings : List Binding)
    → without_arguments (without_argument ctx n) bindings ≡ without_argument (without_arguments ctx bindings) n
freed_apart ctx n [] = refl
freed_apart ctx n (b ∷ bs) =
    ap (λ c. without_arguments c bs) (swapped ctx n b.number (Known no)) ∙ freed_apart (without_argument ctx b.number) n bs

-- what was bound is as before once it isn't bound any more
pub freed : (before inner after : Context) (all bindings : List Binding) (binding : Binding) (known : Know) → all ≡ binding ∷ bindings
    → without_argument before binding.number ≡ before → without_arguments inner bindings ≡ before → after ≡ with_argument inner binding.number known
    → without_arguments after all ≡ before
freed before inner after all bindings binding known whole h e f =
    ap (λ bs. without_arguments after bs) whole
    ∙ ap (λ c. without_arguments (without_argument c binding.number) bindings) f
    ∙ ap (λ c. without_arguments c bindings) (two_set inner binding.number known (Known no))
    ∙ freed_apart inner binding.number bindings
    ∙ ap (λ c. without_argument c binding.number) e
    ∙ h
