-- Canonical texts are read as the trees that they are printed of.
use Rattle.std.proofs.Common.{◌≡◌, ℕ, List, [], ◌∷◌, ◌++◌, map, Ok, codes, encode_utf8_all, sym, refl, ap, ◌∙◌, subst, append_assoc}
use Rattle.std.specs.List.{flat_map, join_by}
use Rattle.std.specs.Str.{chars}
use Rattle.std.proofs.lemmas.Str.{chars-encodes}
use Rattle.qz_lexer.specs.Lexemes.{Lexeme, lexemes, Lexes}
use Rattle.qz_phrases.specs.declared.words.Word.{Word}
use Rattle.qz_phrases.specs.declared.words.Word.TheVariants as word
use Rattle.qz_phrases.specs.declared.words.Mark.TheVariants as mark
use Rattle.qz_phrases.specs.declared.words.Spot.{Spot}
use Rattle.qz_syntax.specs.declared.files.File.{File}
use Rattle.qz_syntax.specs.declared.file_statements.FileBlock.{FileBlock}
use Rattle.qz_syntax.specs.declared.file_statements.FileStmt.{FileStmt}
use Rattle.qz_reader.specs.Texts.{most}
use Rattle.qz_source.specs.Spots.{word_of, spot_of}
use Rattle.qz_source.specs.Sources.{HasWords, IsSource}
use Rattle.qz_printer.specs.Expressions.{one as word_one}
use Rattle.qz_printer.specs.Declarations.{decl_words}
use Rattle.qz_printer.specs.Statements.{stmt_words, block_words}
use Rattle.qz_printer.specs.Texts.{word_text}
use Rattle.qz_printer.specs.Files.{head_words, proto_words, file_words, canonical_text}
use Rattle.qz_printer.proofs.Equations.{words_of_block}
use Rattle.printer_laws.specs.Offsets.{IsAlike}
use Rattle.printer_laws.proofs.Keeping.{FineWords, Says}
use Rattle.printer_laws.proofs.KeepingFiles.{keep_file}
use Rattle.printer_laws.proofs.SpacedWords.{words_of, with_space, spaced, end_text, end_pieces, end_cuts, end_scalars, end_words, end_bytes, join_last}
use Rattle.printer_laws.proofs.SaidWords.{said_words}

-- the words of a file but for the brace at its end
block_front : FileBlock → List Word
block_front b = word.Mark mark.OpenBrace ∷ (flat_map decl_words b.decls ++ join_by (λ (list : List FileStmt). flat_map stmt_words list) (word_one mark.BarBar) b.lists)

block_end : (b : FileBlock) → block_words b ≡ block_front b ++ word_one mark.CloseBrace
unfolding block_front
block_end b =
    words_of_block b
    ∙ ap (λ ws. word.Mark mark.OpenBrace ∷ ws) (sym (append_assoc (flat_map decl_words b.decls) (join_by (λ (list : List FileStmt). flat_map stmt_words list) (word_one mark.BarBar) b.lists) (word_one mark.CloseBrace)))

file_front : File → List Word
file_front f = flat_map proto_words f.protos ++ (head_words f.module ++ block_front f.body)

file_end : (f : File) → file_words f ≡ file_front f ++ word_one mark.CloseBrace
unfolding file_front
file_end f =
    ap (λ ws. flat_map proto_words f.protos ++ (head_words f.module ++ ws)) (block_end f.body)
    ∙ ap (λ ws. flat_map proto_words f.protos ++ ws) (sym (append_assoc (head_words f.module) (block_front f.body) (word_one mark.CloseBrace)))
    ∙ sym (append_assoc (flat_map proto_words f.protos) (head_words f.module ++ block_front f.body) (word_one mark.CloseBrace))

fine_front : (a b : List Word) → FineWords (a ++ b) → FineWords a
fine_front [] b fine = tt
fine_front (w ∷ a) b fine = (fine.0, fine_front a b fine.1)

-- tokens of these words
says_words : (tokens : List Lexeme) (ws : List Word) → words_of tokens ≡ ws → Says (map spot_of tokens) ws []
says_words [] [] e = refl
says_words [] (w ∷ ws) e = absurd (cc (e))
says_words (t ∷ ts) [] e = absurd (cc (e))
says_words (t ∷ ts) (w ∷ ws) e =
    let here : word_of t ≡ w = cc (e) in
    let more : words_of ts ≡ ws = cc (e) in
    (here, says_words ts ws more)

-- the words of a canonical text
record Printed (f : File) : Type 0 where
  words : List Spot
  has : HasWords (canonical_text f) words
  says : Says words (file_words f) []

printed : (f : File) → FineWords (file_words f) → Printed f
printed f fine =
    let front = file_front f in
    let s = spaced front end_text end_pieces (fine_front front (word_one mark.CloseBrace) (subst FineWords (file_end f) fine)) end_cuts end_scalars in
    let tokens = lexemes 0 s.pieces in
    let at_end = s.said 0 in
    let said : words_of tokens ≡ file_words f = at_end.1 ∙ ap (λ ws. front ++ ws) (end_words at_end.0) ∙ sym (file_end f) in
    let bytes : encode_utf8_all s.text ≡ canonical_text f =
    s.bytes ∙ ap (λ bs. flat_map with_space front ++ bs) end_bytes ∙ sym (append_assoc (flat_map with_space front) (codes "}") (codes "\n"))
    ∙ ap (λ bs. bs ++ codes "\n") (sym (join_last front (word.Mark mark.CloseBrace)) ∙ ap (λ ws. join_by word_text (codes " ") ws) (sym (file_end f))) in
    let same : s.text ≡ chars (canonical_text f) = sym (chars-encodes s.text s.scalars) ∙ ap chars bytes in
    record {
      words = map spot_of tokens;
      has = record {
        utf8 = (s.text, (s.scalars, bytes));
        tokens = tokens;
        lexed = subst (λ t. Lexes t (Ok tokens)) same (s.pieces, s.cuts, refl);
        said = refl;
      };
      says = says_words tokens (file_words f) said;
    }

-- a source of the same file, whose words are printed as those
pub record Again (f : File) : Type 0 where
  pub file : File
  pub source : IsSource (canonical_text f) file
  pub alike : IsAlike f file
  pub words : file_words file ≡ file_words f

pub again : (bytes : List ℕ) (f : File) → IsSource bytes f → Again f
again bytes f is =
    let fine = (keep_file most).fine f is.words [] is.spelled (said_words bytes is.words is.has) in
    let p = printed f fine.0 in
    let kept = (keep_file most).to f is.words [] is.spelled p.words [] p.says refl in
    record {
      file = kept.value;
      source = record { words = p.words; has = p.has; spelled = kept.is };
      alike = kept.same;
      words = kept.again;
    }

pub same_text : (f g : File) → file_words f ≡ file_words g → canonical_text f ≡ canonical_text g
same_text f g e = ap (λ ws. join_by word_text (codes " ") ws ++ codes "\n") e
