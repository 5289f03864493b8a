-- A text that begins with some of the tokens of another, and goes on with tokens of given sorts.
use Rattle.std.proofs.Common.{◌≡◌, ℕ, zero, suc, ◌+◌, ◌≤◌, true, List, [], ◌∷◌, ◌++◌, length, take, map, Option, Some, None, Ok, IsUtf8, encode_utf8_all, sym, refl, ap, ◌∙◌, subst, arith, append_assoc}
use Rattle.std.specs.List.{flat_map}
use Rattle.std.specs.Str.{chars, all_scalars}
use Rattle.std.proofs.lemmas.Bool.Decides.{nat_tests}
use Rattle.std.proofs.lemmas.Str.{chars-encodes, scalars-chars}
use Rattle.qz_lexer.specs.declared.tokens.TokenKind.{TokenKind}
use Rattle.qz_lexer.specs.Pieces.{IsPiece, IsLongest, Piece, Cuts}
use Rattle.qz_lexer.specs.Lexemes.{Lexeme, lexeme_at, lexemes, byte_count, Lexes}
use Rattle.qz_lexer.proofs.StartLemmas.{no_empty_piece}
use Rattle.qz_lexer.proofs.WordLemmas.{is_ascii_word, ascii_encodes}
use Rattle.qz_phrases.specs.declared.words.Spot.{Spot}
use Rattle.qz_phrases.specs.Words.{sort_of}
use Rattle.qz_syntax.specs.declared.files.File.{File}
use Rattle.qz_reader.specs.Files.{a_file}
use Rattle.qz_reader.specs.Texts.{IsFile}
use Rattle.qz_source.specs.Spots.{word_said, spot_of}
use Rattle.qz_source.proofs.TokenTexts.{scalars_parts}
use Rattle.source_laws.specs.Beginnings.{BeginsText}
use Rattle.source_laws.proofs.Alike.{Alike}
use Rattle.source_laws.proofs.AlikeFiles.{carry_file}
use Rattle.source_laws.proofs.PiecesAgain.{no_quote, space_again, token_again, piece_again}
use Rattle.source_laws.proofs.Fillers.{filler}

abbrev pub texts : List Piece → List ℕ
texts pieces = flat_map (λ piece. piece.text) pieces

abbrev a_space : Piece
a_space = record { kind = None; text = 32 ∷ [] }

-- tokens of the sorts of these words, each after a space
abbrev filled : List Spot → List ℕ
filled [] = 32 ∷ []
filled (s ∷ ss) = 32 ∷ ((filler s.word).text ++ filled ss)

abbrev fillings : List Spot → List Piece
fillings [] = a_space ∷ []
fillings (s ∷ ss) = a_space ∷ record { kind = Some (filler s.word).kind; text = (filler s.word).text } ∷ fillings ss

filled_first : (ss : List Spot) → (more : List ℕ) × (filled ss ≡ 32 ∷ more)
filled_first [] = ([], refl)
filled_first (s ∷ ss) = ((filler s.word).text ++ filled ss, refl)

filled_cuts : (ss : List Spot) → Cuts (filled ss) (fillings ss) []
filled_cuts [] = ([], refl, space_again 32 [] refl, refl)
filled_cuts (s ∷ ss) =
    let f = filler s.word in
    let next = filled_first ss in
    let longest : IsLongest (record { kind = Some f.kind; text = f.text }) (filled ss) =
    subst (IsLongest (record { kind = Some f.kind; text = f.text })) (sym next.1) (token_again f.kind f.text [] next.0 f.piece) in
    (f.text ++ filled ss, refl, space_again 32 (f.text ++ filled ss) refl, (filled ss, refl, longest, filled_cuts ss))

-- their words are of the same sorts
filled_alike : (at : ℕ) (ss : List Spot) → Alike ss (map spot_of (lexemes at (fillings ss)))
filled_alike at [] = tt
filled_alike at (s ∷ ss) =
    let f = filler s.word in (
      sym (ap (λ bytes. sort_of (word_said f.kind bytes)) (ascii_encodes f.text f.ascii) ∙ f.said),
      filled_alike (at + byte_count (32 ∷ []) + byte_count f.text) ss,
    )

-- characters of texts
scalars_both : (xs ys : List ℕ) → all_scalars xs ≡ true → all_scalars ys ≡ true → all_scalars (xs ++ ys) ≡ true
scalars_both [] ys h k = k
scalars_both (x ∷ xs) ys h k =
    let rest : all_scalars xs ≡ true = grind (arith, nat_tests) in
    let both = scalars_both xs ys rest k in
    grind (arith, nat_tests, both)

scalars_ascii : (text : List ℕ) → is_ascii_word text ≡ true → all_scalars text ≡ true
scalars_ascii [] h = refl
scalars_ascii (c ∷ cs) h =
    let rest : is_ascii_word cs ≡ true = grind (arith, nat_tests) in
    let more = scalars_ascii cs rest in
    grind (arith, nat_tests, more)

scalars_filled : (ss : List Spot) → all_scalars (filled ss) ≡ true
scalars_filled [] = refl
scalars_filled (s ∷ ss) = scalars_both (filler s.word).text (filled ss) (scalars_ascii (filler s.word).text (filler s.word).ascii) (scalars_filled ss)

-- pieces up to and with so many tokens
abbrev after : Option TokenKind → ℕ → ℕ
after None n = suc n
after (Some kind) n = n

abbrev keep : ℕ → List Piece → List Piece
keep zero pieces = []
keep (suc n) [] = []
keep (suc n) (piece ∷ pieces) = piece ∷ keep (after piece.kind n) pieces

one_kept : (at next : ℕ) (kind : Option TokenKind) (bytes : List ℕ) (n : ℕ) (pieces : List Piece) → ((m : ℕ) → lexemes next (keep m pieces) ≡ take m (lexemes next pieces))
    → lexeme_at at kind bytes ++ lexemes next (keep (after kind n) pieces) ≡ take (suc n) (lexeme_at at kind bytes ++ lexemes next pieces)
one_kept at next None bytes n pieces rest = rest (suc n)
one_kept at next (Some kind) bytes n pieces rest = ap (λ l. record { kind = kind; text = bytes; offset = at } ∷ l) (rest n)

kept_lexemes : (at : ℕ) (n : ℕ) (pieces : List Piece) → lexemes at (keep n pieces) ≡ take n (lexemes at pieces)
kept_lexemes at zero [] = refl
kept_lexemes at zero (piece ∷ pieces) = refl
kept_lexemes at (suc n) [] = refl
kept_lexemes at (suc n) (piece ∷ pieces) =
    one_kept at (at + byte_count piece.text) piece.kind (encode_utf8_all piece.text) n pieces (λ m. kept_lexemes (at + byte_count piece.text) m pieces)

-- the first of some pieces begins with a character that is no quote
record Opens (text : List ℕ) : Type 0 where
  first : ℕ
  more : List ℕ
  is : text ≡ first ∷ more
  plain : first ≡ 39 → ⊥

opens : (piece : Piece) (rest : List ℕ) → IsLongest piece rest → Opens piece.text
opens piece rest longest = by_text piece.text longest.is
  where
    by_text : (text : List ℕ) → IsPiece piece.kind text rest → Opens text
    by_text [] is = absurd (no_empty_piece piece.kind rest is)
    by_text (c ∷ cs) is = record { first = c; more = cs; is = refl; plain = no_quote piece.kind c cs rest is }

-- a piece, before what is kept of those after it
kept_piece : (piece : Piece) (rest more : List ℕ) (pieces : List Piece) → (at : ℕ) (n : ℕ) → suc n ≤ length (lexeme_at at piece.kind (encode_utf8_all piece.text) ++ lexemes (at + byte_count piece.text) pieces)
    → IsLongest piece rest → Cuts rest pieces [] → IsLongest piece (texts (keep (after piece.kind n) pieces) ++ (32 ∷ more))
kept_piece piece rest more pieces at n enough longest cuts = by_kind piece.kind piece.text n enough longest
  where
    before : (kind : Option TokenKind) (text : List ℕ) (m : ℕ) (pieces : List Piece) → IsLongest (record { kind = kind; text = text }) rest → Cuts rest pieces [] → 1 ≤ length pieces → IsLongest (record { kind = kind; text = text }) (texts (keep (suc m) pieces) ++ (32 ∷ more))
    before kind text m [] longest cuts some = absurd (omega arith)
    before kind text m (q ∷ qs) longest cuts some =
        let o = opens q cuts.0 cuts.2 in
        let old : rest ≡ o.first ∷ (o.more ++ cuts.0) = cuts.1 ∙ ap (λ l. l ++ cuts.0) o.is in
        let tail = texts (keep (after q.kind m) qs) in
        let new : (q.text ++ tail) ++ (32 ∷ more) ≡ o.first ∷ ((o.more ++ tail) ++ (32 ∷ more)) = ap (λ l. (l ++ tail) ++ (32 ∷ more)) o.is in
        subst (IsLongest (record { kind = kind; text = text })) (sym new)
        (piece_again kind text o.first (o.more ++ cuts.0) ((o.more ++ tail) ++ (32 ∷ more)) o.plain (subst (IsLongest (record { kind = kind; text = text })) old longest))

    some_pieces : (next : ℕ) (pieces : List Piece) → 1 ≤ length (lexemes next pieces) → 1 ≤ length pieces
    some_pieces next [] h = h
    some_pieces next (q ∷ qs) h = omega arith

    by_kind : (kind : Option TokenKind) (text : List ℕ) (n : ℕ) → suc n ≤ length (lexeme_at at kind (encode_utf8_all text) ++ lexemes (at + byte_count text) pieces)
        → IsLongest (record { kind = kind; text = text }) rest → IsLongest (record { kind = kind; text = text }) (texts (keep (after kind n) pieces) ++ (32 ∷ more))
    by_kind None text n enough longest = before None text n pieces longest cuts (some_pieces (at + byte_count text) pieces (omega (arith, enough)))
    by_kind (Some kind) text zero enough longest = token_again kind text rest more longest.is
    by_kind (Some kind) text (suc n) enough longest = before (Some kind) text n pieces longest cuts (some_pieces (at + byte_count text) pieces (omega (arith, enough)))

fewer : (at next : ℕ) (kind : Option TokenKind) (bytes : List ℕ) (n : ℕ) (pieces : List Piece) → suc n ≤ length (lexeme_at at kind bytes ++ lexemes next pieces) → after kind n ≤ length (lexemes next pieces)
fewer at next None bytes n pieces h = h
fewer at next (Some kind) bytes n pieces h = omega (arith, h)

kept_cuts : (at : ℕ) (text : List ℕ) (pieces : List Piece) (n : ℕ) (more : List ℕ) → n ≤ length (lexemes at pieces) → Cuts text pieces [] → Cuts (texts (keep n pieces) ++ (32 ∷ more)) (keep n pieces) (32 ∷ more)
kept_cuts at text [] zero more enough cuts = refl
kept_cuts at text (piece ∷ pieces) zero more enough cuts = refl
kept_cuts at text [] (suc n) more enough cuts = absurd (omega (arith, enough))
kept_cuts at text (piece ∷ pieces) (suc n) more enough cuts =
    let next = at + byte_count piece.text in
    let less = fewer at next piece.kind (encode_utf8_all piece.text) n pieces enough in (
      texts (keep (after piece.kind n) pieces) ++ (32 ∷ more),
      append_assoc piece.text (texts (keep (after piece.kind n) pieces)) (32 ∷ more),
      kept_piece piece cuts.0 more pieces at n enough cuts.2 cuts.3,
      kept_cuts next cuts.0 pieces (after piece.kind n) more less cuts.3,
    )

-- the kept pieces are a front of the text
kept_front : (text : List ℕ) (pieces : List Piece) (n : ℕ) → Cuts text pieces [] → (rest : List ℕ) × (text ≡ texts (keep n pieces) ++ rest)
kept_front text [] zero cuts = (text, refl)
kept_front text (piece ∷ pieces) zero cuts = (text, refl)
kept_front text [] (suc n) cuts = (text, refl)
kept_front text (piece ∷ pieces) (suc n) cuts =
    let more = kept_front cuts.0 pieces (after piece.kind n) cuts.3 in
    (more.0, cuts.1 ∙ ap (λ l. piece.text ++ l) more.1 ∙ sym (append_assoc piece.text (texts (keep (after piece.kind n) pieces)) more.0))

cuts_append : (text : List ℕ) (front back : List Piece) (middle rest : List ℕ) → Cuts text front middle → Cuts middle back rest → Cuts text (front ++ back) rest
cuts_append text [] back middle rest cuts more = subst (λ t. Cuts t back rest) (sym cuts) more
cuts_append text (piece ∷ front) back middle rest cuts more = (cuts.0, cuts.1, cuts.2, cuts_append cuts.0 front back middle rest cuts.3 more)

lexemes_append : (at : ℕ) (front back : List Piece) → (later : ℕ) × (lexemes at (front ++ back) ≡ lexemes at front ++ lexemes later back)
lexemes_append at [] back = (at, refl)
lexemes_append at (piece ∷ front) back =
    let here = lexeme_at at piece.kind (encode_utf8_all piece.text) in
    let more = lexemes_append (at + byte_count piece.text) front back in
    (more.0, ap (λ l. here ++ l) more.1 ∙ sym (append_assoc here (lexemes (at + byte_count piece.text) front) (lexemes more.0 back)))

pub spots_append : (front back : List Lexeme) → map spot_of (front ++ back) ≡ map spot_of front ++ map spot_of back
spots_append [] back = refl
spots_append (token ∷ front) back = ap (λ l. spot_of token ∷ l) (spots_append front back)

alike_after : (front ws vs : List Spot) → Alike ws vs → Alike (front ++ ws) (front ++ vs)
alike_after [] ws vs h = h
alike_after (s ∷ front) ws vs h = (refl, alike_after front ws vs h)

nothing_more : (vs : List Spot) → Alike [] vs → vs ≡ []
nothing_more [] h = refl
nothing_more (v ∷ vs) h = absurd h

-- a file of words of the same sorts
pub file_alike : (levels : ℕ) (ws vs : List Spot) (f : File) → IsFile levels ws f → Alike ws vs → (g : File) × IsFile levels vs g
file_alike levels ws vs f is alike =
    let c = (carry_file levels).to f ws [] is vs alike in
    (c.value, subst (λ rest. a_file levels c.value vs rest) (nothing_more c.more c.alike) c.is)

-- the tokens of a text up to one of them, and then others of which the words, as these, make a file
module _ (bytes : List ℕ) (tokens : List Lexeme) (utf8 : IsUtf8 bytes) (lexed : Lexes (chars bytes) (Ok tokens)) (n : ℕ) (enough : n ≤ length tokens) (more : List Spot) where
  grown_scalars : all_scalars (texts (keep n lexed.0) ++ filled more) ≡ true
  grown_scalars =
      let front = kept_front (chars bytes) lexed.0 n lexed.1 in
      scalars_both (texts (keep n lexed.0)) (filled more) (scalars_parts (texts (keep n lexed.0)) front.0 (sym (ap all_scalars front.1) ∙ scalars-chars bytes utf8)).0 (scalars_filled more)

  grown_cuts : Cuts (texts (keep n lexed.0) ++ filled more) (keep n lexed.0 ++ fillings more) []
  grown_cuts =
      let next = filled_first more in
      let within : n ≤ length (lexemes 0 lexed.0) = subst (λ (ts : List Lexeme). n ≤ length ts) lexed.2 enough in
      let front : Cuts (texts (keep n lexed.0) ++ filled more) (keep n lexed.0) (filled more) =
      subst (λ l. Cuts (texts (keep n lexed.0) ++ l) (keep n lexed.0) l) (sym next.1) (kept_cuts 0 (chars bytes) lexed.0 n next.0 within lexed.1) in
      cuts_append (texts (keep n lexed.0) ++ filled more) (keep n lexed.0) (fillings more) (filled more) [] front (filled_cuts more)

  pub begins_text : (levels : ℕ) (f : File) → IsFile levels (map spot_of (take n tokens) ++ more) f → BeginsText levels (take n tokens)
  begins_text levels f is =
      let text = texts (keep n lexed.0) ++ filled more in
      let split = lexemes_append 0 (keep n lexed.0) (fillings more) in
      let later = lexemes split.0 (fillings more) in
      let front : lexemes 0 (keep n lexed.0) ≡ take n tokens = kept_lexemes 0 n lexed.0 ∙ ap (λ (ts : List Lexeme). take n ts) (sym lexed.2) in
      let all : take n tokens ++ later ≡ lexemes 0 (keep n lexed.0 ++ fillings more) = ap (λ (ts : List Lexeme). ts ++ later) (sym front) ∙ sym split.1 in
      let same : chars (encode_utf8_all text) ≡ text = chars-encodes text grown_scalars in
      let file = file_alike levels (map spot_of (take n tokens) ++ more) (map spot_of (take n tokens ++ later)) f is
      (subst (λ ws. Alike (map spot_of (take n tokens) ++ more) ws) (sym (spots_append (take n tokens) later))
      (alike_after (map spot_of (take n tokens)) more (map spot_of later) (filled_alike split.0 more))) in
      record {
        bytes = encode_utf8_all text;
        utf8 = (text, (grown_scalars, refl));
        more = later;
        lexed = subst (λ t. Lexes t (Ok (take n tokens ++ later))) (sym same) (keep n lexed.0 ++ fillings more, grown_cuts, all);
        file = file.0;
        spelled = file.1;
      }
