-- The tokens of a text are slices of its bytes.
use Rattle.std.proofs.Common.{◌≡◌, ℕ, ◌+◌, ◌-◌, List, [], ◌∷◌, ◌++◌, length, take, drop, Option, Some, None, Ok, encode_utf8_all, slice_range, IsUtf8, sym, refl, ap, ◌∙◌, subst, arith, append_assoc, length-append, All}
use Rattle.std.specs.List.{AllByRecursion}
use Rattle.std.specs.Str.{chars}
use Rattle.std.proofs.Math.Seq.{take-append_seam, drop-append_seam}
use Rattle.std.proofs.lemmas.List.Elements.{All-from_recursion}
use Rattle.std.proofs.lemmas.Str.{encodes-append, encodes-chars}
use Rattle.qz_lexer.specs.declared.tokens.TokenKind.{TokenKind}
use Rattle.qz_lexer.specs.Pieces.{Piece, Cuts}
use Rattle.qz_lexer.specs.Lexemes.{Lexeme, lexeme_at, lexemes, byte_count, Lexes, IsSliceOf}

-- what stands behind a front is a slice
slice_at : (all front middle more : List ℕ) (offset : ℕ) → all ≡ front ++ (middle ++ more) → length front ≡ offset → slice_range all offset (offset + length middle) ≡ middle
slice_at all front middle more offset split at =
    let count : offset + length middle - offset ≡ length middle = omega arith in
    (λ i. take (count i) (drop (sym at i) (split i))) ∙ ap (take (length middle)) (drop-append_seam front (middle ++ more)) ∙ take-append_seam middle more

first_is_slice : (all : List ℕ) (offset : ℕ) (kind : Option TokenKind) (bytes : List ℕ) (more : List Lexeme) → slice_range all offset (offset + length bytes) ≡ bytes → AllByRecursion (IsSliceOf all) more → AllByRecursion (IsSliceOf all) (lexeme_at offset kind bytes ++ more)
first_is_slice all offset None bytes more slice rest = rest
first_is_slice all offset (Some kind) bytes more slice rest = (slice, rest)

all_slices : (all front : List ℕ) (text : List ℕ) (pieces : List Piece) (rest : List ℕ) (offset : ℕ) → all ≡ front ++ encode_utf8_all text → length front ≡ offset → Cuts text pieces rest → AllByRecursion (IsSliceOf all) (lexemes offset pieces)
all_slices all front text [] rest offset split at cuts = tt
all_slices all front text (piece ∷ pieces) rest offset split at cuts =
    let bytes = encode_utf8_all piece.text in
    let after = encode_utf8_all cuts.0 in
    let parts : all ≡ front ++ (bytes ++ after) = split ∙ ap (λ l. front ++ l) (ap encode_utf8_all cuts.1 ∙ encodes-append piece.text cuts.0) in
    let more = all_slices all (front ++ bytes) cuts.0 pieces rest (offset + byte_count piece.text) (parts ∙ sym (append_assoc front bytes after)) (length-append front bytes ∙ ap (λ n. n + length bytes) at) cuts.3 in
    first_is_slice all offset piece.kind bytes (lexemes (offset + byte_count piece.text) pieces) (slice_at all front bytes after offset parts at) more

pub tokens_are_slices : (bytes : List ℕ) (tokens : List Lexeme) → IsUtf8 bytes → Lexes (chars bytes) (Ok tokens) → All (IsSliceOf bytes) tokens
tokens_are_slices bytes tokens u lexes =
    All-from_recursion (IsSliceOf bytes) tokens
    (subst (AllByRecursion (IsSliceOf bytes)) (sym lexes.2) (all_slices bytes [] (chars bytes) lexes.0 [] 0 (sym (encodes-chars bytes u)) refl lexes.1))
