-- Whether a line is taken, by what was read of it.
use Rattle.std.proofs.Common.{◌≡◌, ℕ, Bool, true, false, List, ◌++◌, Option, Some, None, Result, Ok, Err, refl, sym, ap, ◌∙◌, subst, codes}
use Rattle.std.specs.Prelude.{IfOk}
use Rattle.std.specs.Fmt.{decimal}
use Rattle.std.proofs.lemmas.Bool.{false≢true}
use Rattle.std.proofs.lemmas.List.{append_cancel_left, append_cancel_right}
use Rattle.qz_vread.specs.declared.drafts.Draft.{Draft}
use Rattle.qz_vread.specs.Reading.{Reads, numbered_line}
use Rattle.qz_vread.specs.Drafts.{IsLine, Takes}

pub takes_nothing : (leads : Draft → Type 0) (new : Draft) → ((other : Draft) → leads other → ⊥) → Takes leads new false
takes_nothing leads new none = record { sound = λ e. absurd (false≢true e); complete = λ other step. absurd (none other step) }

pub takes_none : {X : Type 0} (right : X → Type 0) (text : X → List ℕ) (next : X → Draft) (line : List ℕ) (new : Draft) → Reads right text line None → Takes (IsLine right text next line) new false
takes_none right text next line new read =
    takes_nothing (IsLine right text next line) new (λ other step. let none : None ≡ Some step.what = read.complete step.what step.right step.is in cc)

pub takes_some : {X : Type 0} (right : X → Type 0) (text : X → List ℕ) (next : X → Draft) (line : List ℕ) (x : X) → Reads right text line (Some x) → Takes (IsLine right text next line) (next x) true
takes_some right text next line x read = record {
  sound = λ e. record { what = x; right = (read.sound x refl).0; is = (read.sound x refl).1; leads = refl };
  complete = λ other step.
      let some : Some x ≡ Some step.what = read.complete step.what step.right step.is in
      let same : step.what ≡ x = cc in
      (refl, step.leads ∙ ap next same);
}

-- what leads on in other words
pub takes_same : (a b : Draft → Type 0) (new : Draft) (taken : Bool) → Takes a new taken → ((d : Draft) → a d → b d) → ((d : Draft) → b d → a d) → Takes b new taken
takes_same a b new taken takes to back = record {
  sound = λ e. to new (takes.sound e);
  complete = λ other step. takes.complete other (back other step);
}

pub if_ok : {X E : Type 0} (P Q : X → Type 0) (r : Result X E) → IfOk r P → ((x : X) → P x → Q x) → IfOk r Q
if_ok P Q (Ok x) p f = f x p
if_ok P Q (Err e) p f = tt

-- a text within a longer one
pub wrapped : {X : Type 0} (right : X → Type 0) (text : X → List ℕ) (wrap : List ℕ → List ℕ) → ((a b : List ℕ) → wrap a ≡ wrap b → a ≡ b)
    → (line inner : List ℕ) (found : Option X) → line ≡ wrap inner → Reads right text inner found → Reads right (λ x. wrap (text x)) line found
wrapped right text wrap once line inner found whole read = record {
  sound = λ x e. let is = read.sound x e in (is.0, whole ∙ ap wrap is.1);
  complete = λ x r e. read.complete x r (once inner (text x) (sym whole ∙ e));
}

pub unwrapped : {X : Type 0} (right : X → Type 0) (text : X → List ℕ) (wrap : List ℕ → List ℕ) → (line : List ℕ) → ((inner : List ℕ) → line ≡ wrap inner → ⊥)
    → Reads right (λ x. wrap (text x)) line None
unwrapped right text wrap line none = record { sound = λ x e. absurd cc; complete = λ x r e. absurd (none (text x) e) }

pub between_once : (before after a b : List ℕ) → before ++ (a ++ after) ≡ before ++ (b ++ after) → a ≡ b
between_once before after a b e = append_cancel_right a b after (append_cancel_left before (a ++ after) (b ++ after) e)

pub numbered_once : (before : List ℕ) (n : ℕ) (after a b : List ℕ) → numbered_line before n after a ≡ numbered_line before n after b → a ≡ b
numbered_once before n after a b e =
    between_once after (codes ";") a b
    (append_cancel_left (codes " ") (after ++ (a ++ codes ";")) (after ++ (b ++ codes ";"))
    (append_cancel_left (decimal n) _ _ (append_cancel_left before _ _ e)))

pub takes_at : {X : Type 0} (right : X → Type 0) (text : X → List ℕ) (next : X → Draft) (line : List ℕ) (x : X) (new : Draft) → Reads right text line (Some x) → new ≡ next x
    → Takes (IsLine right text next line) new true
takes_at right text next line x new read is = subst (λ d. Takes (IsLine right text next line) d true) (sym is) (takes_some right text next line x read)

-- a text behind a number
pub numbered_read : {X : Type 0} (right : X → Type 0) (text : X → List ℕ) (before after line inner : List ℕ) (n k : ℕ) (found : Option X) → k ≡ n
    → line ≡ numbered_line before k after inner → Reads right text inner found → Reads right (λ x. numbered_line before n after (text x)) line found
numbered_read right text before after line inner n k found same whole read =
    wrapped right text (numbered_line before n after) (numbered_once before n after) line inner found (whole ∙ ap (λ m. numbered_line before m after inner) same) read

pub numbered_none : {X : Type 0} (right : X → Type 0) (text : X → List ℕ) (before after line : List ℕ) (n k : ℕ) → k ≡ n
    → ((inner : List ℕ) → line ≡ numbered_line before k after inner → ⊥) → Reads right (λ x. numbered_line before n after (text x)) line None
numbered_none right text before after line n k same none =
    unwrapped right text (numbered_line before n after) line (λ inner e. none inner (e ∙ ap (λ m. numbered_line before m after inner) (sym same)))
