-- Phrases that a mark leads.
use Rattle.std.proofs.Common.{◌≡◌, ℕ, zero, suc, ◌<◌, ◌≤◌, arith, List, [], ◌∷◌, ◌++◌, sym, refl, ap, subst, append_assoc}
use Rattle.qz_syntax.specs.declared.file_expressions.NameAt.{NameAt}
use Rattle.qz_phrases.specs.declared.words.Word.{Word}
use Rattle.qz_phrases.specs.declared.words.Spot.{Spot}
use Rattle.qz_phrases.specs.declared.words.Sort.TheVariants as sort
use Rattle.qz_phrases.specs.declared.words.Word.TheVariants as word
use Rattle.qz_phrases.specs.declared.words.Mark.{Mark}
use Rattle.qz_phrases.specs.declared.cursor.Cursor.{Cursor}
use Rattle.qz_phrases.specs.declared.cursor.Fault.TheVariants.{Deep}
use Rattle.qz_phrases.specs.Words.{first, sort_of}
use Rattle.qz_phrases.specs.Phrases.{Kind, token, one}
use Rattle.qz_phrases.specs.Reading.{upcoming, Begins, Fails}
use Rattle.qz_phrases.proofs.Combining.{Fill, Clear, always, then, meaning, meaning_begun, too_deep}
use Rattle.qz_phrases.proofs.Operands.{spot_mark}

pub led_begins : {A B : Type 0} (make : A → Spot) (x : A) {L : Kind B} {room : ℕ} → Fill L room → Begins (then (always (token make)) L) room (make x ∷ [])
led_begins make x fill = record { more = fill.more; phrase = (x, fill.phrase); stands = λ levels low words h. (fill.more ++ words, refl, fill.stands levels low words h) }

pub mark_begins : {A B : Type 0} (m : Mark) (at : ℕ) (f : ℕ × B → A) {L : Kind B} {room : ℕ} → Fill L room → Begins (meaning f (then (always (one m)) L)) room (record { word = word.Mark m; at = at } ∷ [])
mark_begins m at f {L} {room} fill = meaning_begun f (then (always (one m)) L) room (record { word = word.Mark m; at = at } ∷ []) (led_begins (λ (at : ℕ). record { word = word.Mark m; at = at }) at fill)

pub mark_here : (ws : List Spot) (m : Mark) → first ws ≡ sort.Mark m → (at : ℕ) × (more : List Spot) × (ws ≡ record { word = word.Mark m; at = at } ∷ more)
mark_here [] m is = absurd (cc (is))
mark_here (s ∷ ws) m is = (s.at, ws, ap (λ (s : Spot). s ∷ ws) (spot_mark s m is))

-- what comes after the mark has more levels than there are
pub led_deep : {A B : Type 0} (m : Mark) (f : ℕ × B → A) {L : Kind B} {room top : ℕ} {s : Cursor} → first (upcoming s) ≡ sort.Mark m → Fill L top → ((levels : ℕ) → levels ≤ room → (y : B) (words rest : List Spot) → L levels y words rest → ⊥)
    → Fails (meaning f (then (always (one m)) L)) room s s Deep
led_deep m f {top = top} {s} is fill none =
    let here = mark_here (upcoming s) m is in
    too_deep (λ others agrees levels low y rest h. none levels low h.0.1 h.2.0 rest h.2.2) (record { word = word.Mark m; at = here.0 }) here.1 here.2 top (mark_begins m here.0 f fill)

-- what comes first is begun
pub first_begins : {A B : Type 0} {K : Kind A} {L : Kind B} {room : ℕ} (front : List Spot) → Begins K room front → (l : Fill L room) → Clear l → Begins (then K L) room front
first_begins {K = K} {L} front b l clear = record {
  more = b.more ++ l.more;
  phrase = (b.phrase, l.phrase);
  stands = λ levels enough words h. subst (λ ws. then K L levels (b.phrase, l.phrase) (front ++ ws) words) (sym (append_assoc b.more l.more words))
      ((l.more ++ words, b.stands levels enough (l.more ++ words) (clear words h), l.stands levels enough words h));
}

-- the name that a word is
pub spot_name : (spot : Spot) → sort_of spot.word ≡ sort.Name → (n : NameAt) × (spot ≡ record { word = word.Name n.name; at = n.at })
spot_name spot is = by_word spot.word refl is
  where
    by_word : (w : Word) → spot.word ≡ w → sort_of w ≡ sort.Name → (n : NameAt) × (spot ≡ record { word = word.Name n.name; at = n.at })
    by_word (word.Name n) e is = (record { name = n; at = spot.at }, ap (λ w. record { word = w; at = spot.at }) e)
    by_word (word.Number n) e is = absurd (cc (is))
    by_word (word.Literal n v) e is = absurd (cc (is))
    by_word (word.Mark m) e is = absurd (cc (is))

-- where no level is left, and none is enough
pub grounded : {B : Type 0} (L : Kind B) (room : ℕ) → room < 1 → ((y : B) (words rest : List Spot) → L 0 y words rest → ⊥) → (levels : ℕ) → levels ≤ room → (y : B) (words rest : List Spot) → L levels y words rest → ⊥
grounded L room low none zero enough y words rest h = none y words rest h
grounded L room low none (suc levels) enough y words rest h = omega (arith, low, enough)
