-- Words with a space after each are cut into these words again.
use Rattle.std.proofs.Common.{◌≡◌, ℕ, ◌+◌, true, List, [], ◌∷◌, ◌++◌, map, Some, None, codes, encode_utf8_all, sym, refl, ap, ap₂, ◌∙◌, subst, append_assoc, append-nil}
use Rattle.std.specs.List.{flat_map, join_by}
use Rattle.std.specs.Str.{all_scalars}
use Rattle.std.proofs.lemmas.List.{append_cancel_right}
use Rattle.std.proofs.lemmas.Str.{encodes-append}
use Rattle.qz_lexer.specs.declared.tokens.TokenKind.TheVariants as kind
use Rattle.qz_lexer.specs.Words.{is_single_sign, is_double_sign}
use Rattle.qz_lexer.specs.Pieces.{IsLongest, BeginsWith, Piece, Cuts}
use Rattle.qz_lexer.specs.Lexemes.{Lexeme, lexemes, byte_count}
use Rattle.qz_lexer.proofs.StartLemmas.{sign_start}
use Rattle.qz_lexer.proofs.PieceLemmas.{begins_single}
use Rattle.qz_lexer.proofs.WordLemmas.{ascii_encodes}
use Rattle.qz_phrases.specs.declared.words.Word.{Word}
use Rattle.qz_phrases.specs.declared.words.Word.TheVariants as word
use Rattle.qz_phrases.specs.declared.words.Mark.TheVariants as mark
use Rattle.qz_source.specs.Marks.{signs}
use Rattle.qz_source.specs.Spots.{word_said, word_of}
use Rattle.qz_printer.specs.Texts.{word_text}
use Rattle.source_laws.proofs.PiecesAgain.{space_again, token_again}
use Rattle.printer_laws.proofs.Keeping.{FineWords}
use Rattle.printer_laws.proofs.WordPieces.{WordPiece, word_piece, scalars_both}

-- the words of tokens
abbrev pub words_of : List Lexeme → List Word
words_of tokens = map word_of tokens

-- a word and a space
abbrev pub with_space : Word → List ℕ
with_space w = word_text w ++ codes " "

-- characters that are cut into these words, before others that are cut into these pieces
pub record Spaced (words : List Word) (rest : List ℕ) (others : List Piece) : Type 0 where
  pub text : List ℕ
  pub pieces : List Piece
  pub cuts : Cuts text pieces []
  pub scalars : all_scalars text ≡ true
  pub bytes : encode_utf8_all text ≡ flat_map with_space words ++ encode_utf8_all rest
  pub said : (at : ℕ) → (later : ℕ) × (words_of (lexemes at pieces) ≡ words ++ words_of (lexemes later others))

one_more : (w : Word) (ws : List Word) (rest : List ℕ) (others : List Piece) → WordPiece w → Spaced ws rest others → Spaced (w ∷ ws) rest others
one_more w ws rest others p s =
    let space : encode_utf8_all (32 ∷ s.text) ≡ codes " " ++ encode_utf8_all s.text =
    encodes-append (32 ∷ []) s.text ∙ ap (λ b. b ++ encode_utf8_all s.text) (ascii_encodes (32 ∷ []) refl) in
    record {
      text = p.text ++ 32 ∷ s.text;
      pieces = record { kind = Some p.kind; text = p.text } ∷ record { kind = None; text = 32 ∷ [] } ∷ s.pieces;
      cuts = (32 ∷ s.text, refl, token_again p.kind p.text [] s.text p.piece, (s.text, refl, space_again 32 s.text refl, s.cuts));
      scalars = scalars_both p.text (32 ∷ s.text) p.scalars s.scalars;
      bytes =
          encodes-append p.text (32 ∷ s.text)
          ∙ ap₂ (λ a b. a ++ b) p.bytes (space ∙ ap (λ b. codes " " ++ b) s.bytes)
          ∙ sym (append_assoc (word_text w) (codes " ") (flat_map with_space ws ++ encode_utf8_all rest))
          ∙ sym (append_assoc (with_space w) (flat_map with_space ws) (encode_utf8_all rest));
      said = λ at. let more = s.said (at + byte_count p.text + byte_count (32 ∷ [])) in (more.0, ap₂ (λ v vs. v ∷ vs) p.said more.1);
    }

pub spaced : (ws : List Word) (rest : List ℕ) (others : List Piece) → FineWords ws → Cuts rest others [] → all_scalars rest ≡ true → Spaced ws rest others
spaced [] rest others fine cuts scalars = record { text = rest; pieces = others; cuts = cuts; scalars = scalars; bytes = refl; said = λ at. (at, refl) }
spaced (w ∷ ws) rest others fine cuts scalars = one_more w ws rest others (word_piece w fine.0) (spaced ws rest others fine.1 cuts scalars)

-- the brace and the line feed at the end
abbrev pub end_text : List ℕ
end_text = 125 ∷ 10 ∷ []

abbrev pub end_pieces : List Piece
end_pieces = record { kind = Some kind.Sign; text = 125 ∷ [] } ∷ record { kind = None; text = 10 ∷ [] } ∷ []

brace_longest : IsLongest (record { kind = Some kind.Sign; text = 125 ∷ [] }) (10 ∷ [])
unfolding is_single_sign is_double_sign
brace_longest =
    let b : BeginsWith (125 ∷ 10 ∷ []) (Some kind.Sign) (10 ∷ []) = begins_single (125 ∷ 10 ∷ []) (sign_start 125 refl) 125 (10 ∷ []) refl refl refl in
    subst (λ t. IsLongest (record { kind = Some kind.Sign; text = t }) (10 ∷ [])) (append_cancel_right b.front (125 ∷ []) (10 ∷ []) (sym b.split)) b.is

pub end_cuts : Cuts end_text end_pieces []
end_cuts = (10 ∷ [], refl, brace_longest, ([], refl, space_again 10 [] refl, refl))

pub end_scalars : all_scalars end_text ≡ true
end_scalars = refl

pub end_words : (at : ℕ) → words_of (lexemes at end_pieces) ≡ word.Mark mark.CloseBrace ∷ []
unfolding signs
end_words at = ap (λ bytes. word_said kind.Sign bytes ∷ []) (ascii_encodes (125 ∷ []) refl)

pub end_bytes : encode_utf8_all end_text ≡ codes "}" ++ codes "\n"
end_bytes = ascii_encodes end_text refl

-- the text of words of which this is the last
join_next : (x : Word) (xs : List Word) (w : Word)
    → word_text x ++ flat_map (λ y. codes " " ++ word_text y) (xs ++ w ∷ []) ≡ flat_map with_space (x ∷ xs) ++ word_text w
join_next x [] w =
    ap (λ l. word_text x ++ l) (append-nil (codes " " ++ word_text w)) ∙ sym (append_assoc (word_text x) (codes " ") (word_text w)) ∙ ap (λ l. l ++ word_text w) (sym (append-nil (with_space x)))
join_next x (y ∷ ys) w =
    let later = flat_map (λ z. codes " " ++ word_text z) (ys ++ w ∷ []) in
    ap (λ l. word_text x ++ l) (append_assoc (codes " ") (word_text y) later ∙ ap (λ l. codes " " ++ l) (join_next y ys w))
    ∙ sym (append_assoc (word_text x) (codes " ") (flat_map with_space (y ∷ ys) ++ word_text w))
    ∙ sym (append_assoc (with_space x) (flat_map with_space (y ∷ ys)) (word_text w))

pub join_last : (xs : List Word) (w : Word) → join_by word_text (codes " ") (xs ++ w ∷ []) ≡ flat_map with_space xs ++ word_text w
join_last [] w = append-nil (word_text w)
join_last (x ∷ xs) w = join_next x xs w
