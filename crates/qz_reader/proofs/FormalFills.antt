-- Formals in place of others that are missing, and formals that need the one before them.
use Rattle.std.proofs.Common.{◌≡◌, ℕ, [], ◌∷◌, Option, Some, None, Result, sym, refl, subst}
use Rattle.qz_syntax.specs.declared.declarations.Class.{Class}
use Rattle.qz_syntax.specs.declared.declarations.Class.TheVariants as class
use Rattle.qz_syntax.specs.declared.declarations.Dir.TheVariants as dir
use Rattle.qz_syntax.specs.declared.files.TypeText.{TypeText}
use Rattle.qz_syntax.specs.declared.files.TypeText.TheVariants as type
use Rattle.qz_syntax.specs.declared.files.FileFormal.{FileFormal}
use Rattle.qz_phrases.specs.declared.words.Word.TheVariants as word
use Rattle.qz_phrases.specs.declared.words.Mark.TheVariants as mark
use Rattle.qz_phrases.specs.declared.cursor.Cursor.{Cursor}
use Rattle.qz_phrases.specs.declared.cursor.Fault.{Fault}
use Rattle.qz_phrases.specs.Words.{first}
use Rattle.qz_phrases.specs.Reading.{upcoming, Reads}
use Rattle.qz_phrases.specs.declared.cursor.Fault.TheVariants.{Parse}
use Rattle.qz_phrases.specs.Reading.{Fails}
use Rattle.qz_phrases.proofs.Combining.{Fill, always, started_fails, no_phrase}
use Rattle.qz_phrases.proofs.Handing.{started_hands}
use Rattle.qz_reader.specs.declared.formals.FormalStart.TheVariants as formal
use Rattle.qz_reader.specs.Formals.{formal_start, known_formal, formal_row, directed, a_formal, more_formals, a_formals}

abbrev pub directed_fill : (known : Class × TypeText) {room : ℕ} → Fill (always (directed known)) room
directed_fill known = record {
  more = record { word = word.Mark mark.Exclamation; at = 0 } ∷ record { word = word.Name []; at = 0 } ∷ [];
  phrase = record { class = known.0; dir = dir.Out; ty = known.1; name = record { name = []; at = 0 } };
  stands = λ levels low words h. ((dir.Out, record { name = []; at = 0 }), refl, (record { word = word.Name []; at = 0 } ∷ words, (0, refl, refl), refl));
}

-- `bool ! x`
abbrev pub formal_fill : (last : Option (Class × TypeText)) {room : ℕ} → Fill (always (a_formal last)) room
formal_fill last = record {
  more = record { word = word.Mark mark.Bool; at = 0 } ∷ record { word = word.Mark mark.Exclamation; at = 0 } ∷ record { word = word.Name []; at = 0 } ∷ [];
  phrase = record { class = class.Mem; dir = dir.Out; ty = type.Bool; name = record { name = []; at = 0 } };
  stands = λ levels low words h. (
    ((class.Mem, type.Bool), record { class = class.Mem; dir = dir.Out; ty = type.Bool; name = record { name = []; at = 0 } }),
    refl,
    (
      record { word = word.Mark mark.Exclamation; at = 0 } ∷ record { word = word.Name []; at = 0 } ∷ words,
      (type.Bool, refl, (0, refl, refl)),
      ((dir.Out, record { name = []; at = 0 }), refl, (record { word = word.Name []; at = 0 } ∷ words, (0, refl, refl), refl)),
    ),
  );
}

abbrev pub more_fill : (f : FileFormal) {room : ℕ} → Fill (always (more_formals f)) room
more_fill f = record { more = record { word = word.Mark mark.CloseParen; at = 0 } ∷ []; phrase = []; stands = λ levels low words h. (([], 0), refl, refl) }

abbrev pub formals_fill : {room : ℕ} → Fill (always a_formals) room
formals_fill = record { more = record { word = word.Mark mark.CloseParen; at = 0 } ∷ []; phrase = []; stands = λ levels low words h. (0, refl, refl) }

pub hands_directed : (last : Option (Class × TypeText)) (known : Class × TypeText) (room : ℕ) (s0 s1 : Cursor) → formal.Dir ≡ formal_start (first (upcoming s0)) → last ≡ Some known → (result : Result FileFormal Fault) → Reads (always (directed known)) room s0 s1 result → Reads (always (a_formal last)) room s0 s1 result
hands_directed last known room s0 s1 is last_is result h = started_hands formal_start (λ s. always (formal_row last s)) room s0 s1 is result
    (subst (λ l. Reads (always (known_formal l)) room s0 s1 result) (sym last_is) h)

pub no_directed : (last : Option (Class × TypeText)) (room : ℕ) (s : Cursor) → formal.Dir ≡ formal_start (first (upcoming s)) → last ≡ None → Fails (always (a_formal last)) room s s Parse
no_directed last room s is last_is = started_fails formal_start (λ s. always (formal_row last s)) is
    (subst (λ l. Fails (always (known_formal l)) room s s Parse) (sym last_is) (no_phrase (λ others agrees levels y rest h. h)))
