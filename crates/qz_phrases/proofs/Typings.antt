-- Types that may be missing, and rows of names.
use Rattle.std.proofs.Common.{◌≡◌, ◌≢◌, ℕ, ◌∙◌, inl, inr, List, [], ◌∷◌, drop, IsTrue, true, false, sym, refl, ap, subst, Result, Ok, Err}
use Rattle.qz_syntax.specs.declared.file_expressions.NameAt.{NameAt}
use Rattle.qz_syntax.specs.declared.files.TypeText.{TypeText}
use Rattle.qz_syntax.specs.declared.files.TypeText.TheVariants as type
use Rattle.qz_phrases.specs.declared.words.Spot.{Spot}
use Rattle.qz_phrases.specs.declared.words.Sort.{Sort}
use Rattle.qz_phrases.specs.declared.words.Sort.TheVariants as sort
use Rattle.qz_phrases.specs.declared.words.Mark.TheVariants as mark
use Rattle.qz_phrases.specs.declared.words.Word.TheVariants as word
use Rattle.qz_phrases.specs.declared.words.TypeStart.{TypeStart}
use Rattle.qz_phrases.specs.declared.words.TypeStart.TheVariants as start
use Rattle.qz_phrases.specs.declared.cursor.Cursor.{Cursor}
use Rattle.qz_phrases.specs.declared.cursor.Fault.{Fault}
use Rattle.qz_phrases.specs.declared.cursor.Fault.TheVariants.{Parse, Deep, Memory}
use Rattle.qz_phrases.specs.Words.{first, closes, type_start, is_comma}
use Rattle.qz_phrases.specs.Phrases.{Kind, one, several}
use Rattle.qz_phrases.specs.Declarations.{a_type, type_or_bool_row, type_or_bool, next_name, names}
use Rattle.qz_phrases.specs.Reading.{upcoming, Agrees, May, ReadsIt, ReadsSome, Fails, Reads, Skims}
use Rattle.qz_phrases.proofs.Ahead.{agrees_here, still}
use Rattle.qz_phrases.proofs.Combining.{Fill, always, started_reads, started_fails, failed}

pub untyped : (w : Sort) → IsTrue (closes w) → type_start w ≡ start.None
untyped (sort.Mark mark.Bool) h = absurd (cc (h))
untyped (sort.Mark mark.Bv) h = absurd (cc (h))
untyped w h = refl

-- a fault is told alike
pub skims : {A : Type 0} (K : Kind A) (room : ℕ) (s0 s1 : Cursor) (why : Fault) → Reads K room s0 s1 (Err why) → Skims K room s0 s1 (Err why)
skims K room s0 s1 Parse h = h
skims K room s0 s1 Deep h = h
skims K room s0 s1 Memory h = h

pub reads : {A : Type 0} (K : Kind A) (room : ℕ) (s0 s1 : Cursor) (why : Fault) → Skims K room s0 s1 (Err why) → Reads K room s0 s1 (Err why)
reads K room s0 s1 Parse h = h
reads K room s0 s1 Deep h = h
reads K room s0 s1 Memory h = h

pub no_type : (s : Cursor) (room : ℕ) → start.None ≡ type_start (first (upcoming s)) → ReadsIt (always type_or_bool) room s s type.Bool
no_type s room is = record {
  moves = still;
  front = [];
  read = refl;
  stands = λ levels low words may. subst (λ t. type_or_bool_row t type.Bool words words) (sym (untyped_first words may)) (refl, refl);
  only = λ others agrees levels y rest h.
      let g = subst (λ t. type_or_bool_row t y (drop s.read others) rest) (ap type_start (agrees_here s others agrees) ∙ sym is) h in
      (g.0, sym g.1);
}
  where
    untyped_first : (words : List Spot) → May (upcoming s) words → type_start (first words) ≡ start.None
    untyped_first words (inl h) = untyped (first words) h
    untyped_first words (inr e) = ap type_start e ∙ sym is

pub some_type : (s0 s1 : Cursor) (room : ℕ) (t : TypeStart) → t ≡ type_start (first (upcoming s0)) → t ≢ start.None → (result : Result TypeText Fault) → Reads (always a_type) room s0 s1 result → Skims (always type_or_bool) room s0 s1 result
some_type s0 s1 room t is some (Ok x) h = (started_reads type_start (λ t. always (type_or_bool_row t)) is (by_start t some h)).it
  where
    by_start : (t : TypeStart) → t ≢ start.None → ReadsSome (always a_type) room s0 s1 x → ReadsSome (always (type_or_bool_row t)) room s0 s1 x
    by_start start.Bool some k = k
    by_start start.Bv some k = k
    by_start start.None some k = absurd (some refl)
some_type s0 s1 room t is some (Err why) h = skims (always type_or_bool) room s0 s1 why (failed why h (λ f. started_fails type_start (λ t. always (type_or_bool_row t)) is (by_start t some f)))
  where
    by_start : (t : TypeStart) → t ≢ start.None → Fails (always a_type) room s0 s1 why → Fails (always (type_or_bool_row t)) room s0 s1 why
    by_start start.Bool some k = k
    by_start start.Bv some k = k
    by_start start.None some k = absurd (some refl)

abbrev pub type_fill : {room : ℕ} → Fill (always a_type) room
type_fill = record { more = record { word = word.Mark mark.Bool; at = 0 } ∷ []; phrase = type.Bool; stands = λ levels low words h. (0, refl, refl) }

abbrev pub no_type_fill : {room : ℕ} → Fill (always type_or_bool) room
no_type_fill = record { more = []; phrase = type.Bool; stands = λ levels low words h. subst (λ t. type_or_bool_row t type.Bool words words) (sym (untyped (first words) h)) (refl, refl) }

abbrev pub semicolon_fill : {room : ℕ} → Fill (always (several next_name (one mark.Semicolon))) room
semicolon_fill = record { more = record { word = word.Mark mark.Semicolon; at = 0 } ∷ []; phrase = ([], 0); stands = λ levels low words h. refl }

abbrev pub names_fill : {room : ℕ} → Fill (always names) room
names_fill = record {
  more = record { word = word.Name []; at = 0 } ∷ record { word = word.Mark mark.Semicolon; at = 0 } ∷ [];
  phrase = record { name = []; at = 0 } ∷ [];
  stands = λ levels low words h. ((record { name = []; at = 0 }, ([], 0)), refl, (record { word = word.Mark mark.Semicolon; at = 0 } ∷ words, refl, refl));
}

-- a comma is no semicolon
pub comma_here : (s : Cursor) (others : List Spot) → Agrees s others → is_comma (first (upcoming s)) ≡ true → (at : ℕ) (rest : List Spot) → one mark.Semicolon at (drop s.read others) rest → ⊥
comma_here s others agrees is at rest h = let e = ap is_comma (ap first (sym h) ∙ agrees_here s others agrees) ∙ is in cc (e)

pub no_comma_here : (s : Cursor) (others : List Spot) → Agrees s others → is_comma (first (upcoming s)) ≡ false → (n : NameAt) (rest : List Spot) → next_name n (drop s.read others) rest → ⊥
no_comma_here s others agrees is n rest h = let e = ap is_comma (ap first (sym h.2.1) ∙ agrees_here s others agrees) ∙ is in cc (e)
