-- The laws, of every file that is the same as one that some text spells.
use Rattle.std.proofs.Common.{◌≡◌, sym, ap, ◌∙◌, subst}
use Rattle.qz_syntax.specs.declared.files.File.{File}
use Rattle.qz_source.specs.Sources.{IsSource}
use Rattle.qz_printer.specs.Files.{canonical_text}
use Rattle.printer_laws.specs.Readings.{CanBeSpelled, IsReadAs, IsOnlySource}
use Rattle.printer_laws.proofs.CanonicalTexts.{again, same_text}
use Rattle.printer_laws.proofs.PlainWords.{alike_words}

-- it has the canonical text of the other
text_of : (f : File) → (s : CanBeSpelled f) → canonical_text s.file ≡ canonical_text f
text_of f s = same_text s.file f (sym (alike_words f s.file s.alike))

pub is_read : (f : File) → CanBeSpelled f → IsReadAs (canonical_text f) f
is_read f s =
    let a = again s.bytes s.file s.source in
    record { file = a.file; source = subst (λ t. IsSource t a.file) (text_of f s) a.source; alike = s.alike ∙ a.alike }

pub is_printed_again : (f g : File) → CanBeSpelled f → IsOnlySource (canonical_text f) g → canonical_text g ≡ canonical_text f
is_printed_again f g s only =
    let a = again s.bytes s.file s.source in
    let same : a.file ≡ g = only.only a.file (subst (λ t. IsSource t a.file) (text_of f s) a.source) in
    ap canonical_text (sym same) ∙ same_text a.file s.file a.words ∙ text_of f s
