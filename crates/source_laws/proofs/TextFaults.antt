-- A fault of grammar, from words to texts.
use Rattle.std.proofs.Common.{◌≡◌, ℕ, zero, suc, ◌+◌, ◌<◌, ◌≤◌, inl, inr, List, [], ◌∷◌, ◌++◌, length, take, drop, map, Ok, IsUtf8, sym, refl, ap, ◌∙◌, subst, arith, length-append, add-one}
use Rattle.std.specs.Str.{chars}
use Rattle.std.proofs.Math.Seq.{take-append_seam}
use Rattle.std.proofs.lemmas.Bool.{cases_lt}
use Rattle.std.proofs.lemmas.List.{append-nil, length-drop, length-take-le, take-append-drop, take_at}
use Rattle.qz_lexer.specs.Lexemes.{Lexeme, Lexes}
use Rattle.qz_phrases.specs.declared.words.Spot.{Spot}
use Rattle.qz_syntax.specs.declared.files.File.{File}
use Rattle.qz_reader.specs.Texts.{IsFile, most, BeginsFile}
use Rattle.qz_source.specs.declared.faults.SourceFault.TheVariants as fault
use Rattle.qz_source.specs.Spots.{spot_of}
use Rattle.qz_source.specs.Sources.{HasFault, IsParseAt, IsDeepAt, offset_at}
use Rattle.qz_source.proofs.Wholes.{offset_past}
use Rattle.source_laws.specs.Beginnings.{BeginsText, offset_of, Divides, GoesNowhere, IsParseText, IsDeepText}
use Rattle.source_laws.proofs.Growing.{begins_text}

length_spots : (tokens : List Lexeme) → length (map spot_of tokens) ≡ length tokens
length_spots [] = refl
length_spots (token ∷ tokens) = ap (λ n. suc n) (length_spots tokens)

take_spots : (n : ℕ) (tokens : List Lexeme) → take n (map spot_of tokens) ≡ map spot_of (take n tokens)
take_spots zero [] = refl
take_spots zero (token ∷ tokens) = refl
take_spots (suc n) [] = refl
take_spots (suc n) (token ∷ tokens) = ap (λ l. spot_of token ∷ l) (take_spots n tokens)

place_of : (end : ℕ) (tokens : List Lexeme) (n : ℕ) → offset_at end (map spot_of tokens) n ≡ offset_of end (drop n tokens)
place_of end [] zero = refl
place_of end [] (suc n) = refl
place_of end (token ∷ tokens) zero = refl
place_of end (token ∷ tokens) (suc n) = place_of end tokens n

take_more : (n : ℕ) (tokens : List Lexeme) (next : Lexeme) (rest : List Lexeme) → drop n tokens ≡ next ∷ rest → take (suc n) tokens ≡ take n tokens ++ next ∷ []
take_more zero [] next rest e = absurd (cc (e))
take_more (suc n) [] next rest e = absurd (cc (e))
take_more zero (token ∷ tokens) next rest e = let same : token ≡ next = cc (e) in ap (λ t. t ∷ []) same
take_more (suc n) (token ∷ tokens) next rest e = ap (λ l. token ∷ l) (take_more n tokens next rest e)

-- how many tokens stand before a place of their words
pub record Before (tokens : List Lexeme) (number n : ℕ) : Type 0 where
  pub enough : n ≤ length tokens
  pub same : n < length tokens → number ≡ n
  pub place : (end : ℕ) → offset_at end (map spot_of tokens) number ≡ offset_of end (drop n tokens)

before : (tokens : List Lexeme) (number : ℕ) (front : List Spot) → map spot_of tokens ≡ front ++ drop number (map spot_of tokens) → Before tokens number (length front)
before tokens number front is =
    let whole = ap (λ (ws : List Spot). length ws) is ∙ length-append front (drop number (map spot_of tokens)) in
    let rest = length-drop number (map spot_of tokens) in
    let all = length_spots tokens in
    let same : length front < length tokens → number ≡ length front = λ less. omega (arith, whole, rest, all, less) in
    let enough : length front ≤ length tokens = omega (arith, whole, rest, all) in
    record {
      enough = enough;
      same = same;
      place = λ end. elim (cases_lt (length front) (length tokens)) [
        | inl less ↦ ap (λ k. offset_at end (map spot_of tokens) k) (same less) ∙ place_of end tokens (length front)
        | inr all_of ↦
            let past : length (map spot_of tokens) ≤ number = omega (arith, whole, rest, all, all_of) in
            let past_too : length (map spot_of tokens) ≤ length front = omega (arith, all, all_of) in
            offset_past end (map spot_of tokens) number past ∙ sym (offset_past end (map spot_of tokens) (length front) past_too) ∙ place_of end tokens (length front)
      ];
    }

front_is : (tokens : List Lexeme) (front rest : List Spot) → map spot_of tokens ≡ front ++ rest → front ≡ map spot_of (take (length front) tokens)
front_is tokens front rest is = sym (take-append_seam front rest) ∙ ap (λ ws. take (length front) ws) (sym is) ∙ take_spots (length front) tokens

module _ (bytes : List ℕ) (tokens : List Lexeme) (utf8 : IsUtf8 bytes) (lexed : Lexes (chars bytes) (Ok tokens)) where
  begun : (levels number : ℕ) → (b : BeginsFile levels (map spot_of tokens) number) → BeginsText levels (take (length b.front) tokens)
  begun levels number b =
      begins_text bytes tokens utf8 lexed (length b.front) (before tokens number b.front b.before).enough b.more levels b.file
      (subst (λ ws. IsFile levels (ws ++ b.more) b.file) (front_is tokens b.front (drop number (map spot_of tokens)) b.before) b.is)

  divided : (offset number n : ℕ) → Before tokens number n → offset ≡ offset_at (length bytes) (map spot_of tokens) number → (rest : List Lexeme) → drop n tokens ≡ rest → Divides bytes offset (take n tokens) rest
  divided offset number n b place rest is = record {
    utf8 = utf8;
    lexed = subst (λ ts. Lexes (chars bytes) (Ok ts)) (sym (take-append-drop n tokens) ∙ ap (λ l. take n tokens ++ l) is) lexed;
    place = place ∙ b.place (length bytes) ∙ ap (λ ts. offset_of (length bytes) ts) is;
  }

-- words that go on with the same word
goes_on : (tokens : List Lexeme) (n : ℕ) (next : Lexeme) (rest more : List Lexeme) → n ≤ length tokens → drop n tokens ≡ next ∷ rest
    → take (n + 1) (map spot_of ((take n tokens ++ next ∷ []) ++ more)) ≡ take (n + 1) (map spot_of tokens)
goes_on tokens n next rest more enough is =
    let front : take (n + 1) tokens ≡ take n tokens ++ next ∷ [] = ap (λ k. take k tokens) (add-one n) ∙ take_more n tokens next rest is in
    let there : n + 1 ≤ length tokens = (let left = ap (λ (ts : List Lexeme). length ts) is in let all = length-drop n tokens in omega (arith, left, all)) in
    let size : length (take n tokens ++ next ∷ []) ≡ n + 1 = ap (λ (ts : List Lexeme). length ts) (sym front) ∙ length-take-le (n + 1) tokens there in
    take_spots (n + 1) ((take n tokens ++ next ∷ []) ++ more)
    ∙ ap (λ ts. map spot_of ts) (take_at (take n tokens ++ next ∷ []) more (n + 1) size ∙ sym front)
    ∙ sym (take_spots (n + 1) tokens)

nowhere : (tokens : List Lexeme) (number n levels : ℕ) → Before tokens number n
    → ((others : List Spot) → take (number + 1) others ≡ take (number + 1) (map spot_of tokens) → (f : File) → IsFile levels others f → ⊥)
    → (rest : List Lexeme) → drop n tokens ≡ rest → GoesNowhere levels (take n tokens) rest
nowhere tokens number n levels b none [] is = λ f file.
    let all : map spot_of (take n tokens) ≡ map spot_of tokens = ap (λ ts. map spot_of ts) (sym (append-nil (take n tokens)) ∙ ap (λ l. take n tokens ++ l) (sym is) ∙ take-append-drop n tokens) in
    none (map spot_of (take n tokens)) (ap (λ ws. take (number + 1) ws) all) f file
nowhere tokens number n levels b none (next ∷ rest) is = λ text.
    let less : n < length tokens = (let left = ap (λ (ts : List Lexeme). length ts) is in let all = length-drop n tokens in omega (arith, left, all)) in
    let same = goes_on tokens n next rest text.more b.enough is in
    none (map spot_of ((take n tokens ++ next ∷ []) ++ text.more))
    (subst (λ k. take (k + 1) (map spot_of ((take n tokens ++ next ∷ []) ++ text.more)) ≡ take (k + 1) (map spot_of tokens)) (sym (b.same less)) same)
    text.file text.spelled

pub parse_text : (bytes : List ℕ) (offset : ℕ) → HasFault bytes (fault.Parse offset) → IsParseText bytes offset
parse_text bytes offset h =
    let tokens = h.has.tokens in
    let at : IsParseAt (map spot_of tokens) (length bytes) offset = subst (λ ws. IsParseAt ws (length bytes) offset) h.has.said h.wrong in
    let front = at.wrong.begins.front in
    let b = before tokens at.number front at.wrong.begins.before in
    record {
      front = take (length front) tokens;
      rest = drop (length front) tokens;
      divides = divided bytes tokens h.has.utf8 h.has.lexed offset at.number (length front) b at.place (drop (length front) tokens) refl;
      begins = begun bytes tokens h.has.utf8 h.has.lexed most at.number at.wrong.begins;
      none = λ levels. nowhere tokens at.number (length front) levels b (λ others same f is. at.wrong.none others same levels f is) (drop (length front) tokens) refl;
    }

next_of : (tokens : List Lexeme) (n : ℕ) → n < length tokens → (next : Lexeme) × (rest : List Lexeme) × (drop n tokens ≡ next ∷ rest)
next_of [] n less = absurd (omega arith)
next_of (token ∷ tokens) zero less = (token, tokens, refl)
next_of (token ∷ tokens) (suc n) less = next_of tokens n (omega arith)

pub deep_text : (bytes : List ℕ) (offset : ℕ) → HasFault bytes (fault.Deep offset) → IsDeepText bytes offset
deep_text bytes offset h =
    let tokens = h.has.tokens in
    let at : IsDeepAt (map spot_of tokens) (length bytes) offset = subst (λ ws. IsDeepAt ws (length bytes) offset) h.has.said h.wrong in
    let front = at.wrong.begins.front in
    let b = before tokens at.number front at.wrong.begins.before in
    let sized = ap (λ (ws : List Spot). length ws) at.wrong.begins.before ∙ length-append front (drop at.number (map spot_of tokens)) in
    let left = length-drop at.number (map spot_of tokens) in
    let all = length_spots tokens in
    let there = at.wrong.there in
    let less : length front < length tokens = omega (arith, sized, left, all, there) in
    let next = next_of tokens (length front) less in
    let deeper = at.wrong.deeper in
    let sized_too = ap (λ (ws : List Spot). length ws) deeper.1.before ∙ length-append deeper.1.front (drop (at.number + 1) (map spot_of tokens)) in
    let left_too = length-drop (at.number + 1) (map spot_of tokens) in
    let one_more : length deeper.1.front ≡ suc (length front) = omega (arith, sized, left, sized_too, left_too, all, there) in
    record {
      front = take (length front) tokens;
      next = next.0;
      rest = next.1;
      divides = divided bytes tokens h.has.utf8 h.has.lexed offset at.number (length front) b at.place (next.0 ∷ next.1) next.2;
      begins = begun bytes tokens h.has.utf8 h.has.lexed most at.number at.wrong.begins;
      none = nowhere tokens at.number (length front) most b (λ others same f is. at.wrong.none others same most (omega arith) f is) (next.0 ∷ next.1) next.2;
      levels = deeper.0;
      deeper = subst (λ ts. BeginsText deeper.0 ts) (ap (λ k. take k tokens) one_more ∙ take_more (length front) tokens next.0 next.1 next.2)
          (begun bytes tokens h.has.utf8 h.has.lexed deeper.0 (at.number + 1) deeper.1);
    }
