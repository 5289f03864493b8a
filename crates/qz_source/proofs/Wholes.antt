-- The words of bytes and the file that they spell are the only ones; and the offsets of words.
use Rattle.std.proofs.Common.{◌≡◌, ℕ, zero, suc, ◌<◌, ◌≤◌, List, [], ◌∷◌, map, length, get_or, Result, Ok, Err, IfOk, sym, refl, ap, subst, ◌∙◌, arith}
use Rattle.std.specs.Str.{chars}
use Rattle.qz_lexer.specs.Lexemes.{Lexeme, Lexes}
use Rattle.qz_phrases.specs.declared.words.Spot.{Spot}
use Rattle.qz_syntax.specs.declared.files.File.{File}
use Rattle.qz_reader.specs.Texts.{IsFile, most}
use Rattle.qz_source.specs.declared.faults.SourceFault.{SourceFault}
use Rattle.qz_source.specs.Spots.{spot_of}
use Rattle.qz_source.specs.Sources.{HasWords, IsSource, offset_at}

pub only_words : (bytes text : List ℕ) (tokens : List Lexeme) (words : List Spot) → text ≡ bytes
    → ((outcome : Result (List Lexeme) ℕ) → Lexes (chars text) outcome → Ok tokens ≡ outcome) → words ≡ map spot_of tokens
    → (others : List Spot) → HasWords bytes others → others ≡ words
only_words bytes text tokens words same only said others has =
    let one : Ok tokens ≡ Ok has.tokens = only (Ok has.tokens) (subst (λ t. Lexes (chars t) (Ok has.tokens)) (sym same) has.lexed) in
    let equal : tokens ≡ has.tokens = cc in
    has.said ∙ ap (λ ts. map spot_of ts) (sym equal) ∙ sym said

pub only : (bytes : List ℕ) (words : List Spot) → ((others : List Spot) → HasWords bytes others → others ≡ words) → (r : Result File SourceFault)
    → IfOk r (λ f. (other : File) → IsFile most words other → other ≡ f) → IfOk r (λ f. (other : File) → IsSource bytes other → other ≡ f)
only bytes words one (Ok f) is = λ other source. is other (subst (λ ws. IsFile most ws other) (one source.words source.has) source.spelled)
only bytes words one (Err why) is = tt

-- the offset of a word
pub offset_in : (end : ℕ) (words : List Spot) (n : ℕ) (d : Spot) → n < length words → offset_at end words n ≡ (get_or words n d).at
offset_in end [] n d there = absurd (omega arith)
offset_in end (spot ∷ words) zero d there = refl
offset_in end (spot ∷ words) (suc n) d there = offset_in end words n d (omega arith)

-- past the last word it is the end
pub offset_past : (end : ℕ) (words : List Spot) (n : ℕ) → length words ≤ n → offset_at end words n ≡ end
offset_past end [] n far = refl
offset_past end (spot ∷ words) zero far = absurd (omega arith)
offset_past end (spot ∷ words) (suc n) far = offset_past end words n (omega arith)
