-- Comments, found by their bytes.
use Rattle.std.proofs.Common.{◌≡◌, ℕ, ◌+◌, ◌<◌, ◌≤◌, List, ◌∷◌, ◌++◌, length, take, drop, get_or, codes, sym, refl, ap, ◌∙◌, arith, lit<, inl, inr, IsUtf8, encode_utf8_all, append_assoc, length-append, length-drop, get_or-drop, take-append-drop, length-take-le}
use Rattle.std.specs.Str.{chars, IsCharBoundary}
use Rattle.std.proofs.Math.Seq.{drop-append_seam}
use Rattle.std.proofs.lemmas.Bool.{cases_lt}
use Rattle.std.proofs.lemmas.Str.{IsUtf8-take, IsUtf8-drop, IsCharBoundary-before_ascii, chars-append, length-le-encodes}
use Rattle.qz_lexer.specs.Runs.{Takes, Lacks, Skips, is_of_line}
use Rattle.qz_lexer.specs.Blanks.{IsLineComment, IsBlockComment}
use Rattle.qz_lexer.proofs.ListLemmas.{longer_front}
use Rattle.qz_lexer.proofs.TextLemmas.{bytes_split, chars_two, encodes_two}

pub no_line : (text : List ℕ) → ((rest : List ℕ) → text ≡ 47 ∷ 47 ∷ rest → ⊥) → Lacks IsLineComment text
no_line text none front rest e is = none (is.body ++ rest) (sym e ∙ ap (λ l. l ++ rest) is.spelled)

pub takes_line : (text line after : List ℕ) (n : ℕ) → text ≡ 47 ∷ 47 ∷ line → Skips is_of_line line n after → Takes IsLineComment text after
takes_line text line after n e skips = record {
  front = 47 ∷ 47 ∷ skips.run;
  split = e ∙ ap (λ l. 47 ∷ 47 ∷ l) skips.split;
  is = record { body = skips.run; spelled = refl; whole = skips.whole };
}

-- what follows /* in a block comment and after it
block_inside : (front rest : List ℕ) → (is : IsBlockComment front rest) → front ++ rest ≡ 47 ∷ 42 ∷ (is.body ++ (42 ∷ 47 ∷ rest))
block_inside front rest is =
    ap (λ l. l ++ rest) is.spelled ∙ ap (λ l. 47 ∷ 42 ∷ l) (append_assoc is.body (codes "*/") rest)

pub no_block_start : (text : List ℕ) → ((rest : List ℕ) → text ≡ 47 ∷ 42 ∷ rest → ⊥) → Lacks IsBlockComment text
no_block_start text none front rest e is = none _ (sym e ∙ block_inside front rest is)

pub no_block_end : (text inside : List ℕ) → text ≡ 47 ∷ 42 ∷ inside → ((before after : List ℕ) → inside ≡ before ++ (42 ∷ 47 ∷ after) → ⊥) → Lacks IsBlockComment text
no_block_end text inside e none front rest same is =
    let both : 47 ∷ 42 ∷ inside ≡ 47 ∷ 42 ∷ (is.body ++ (42 ∷ 47 ∷ rest)) = sym e ∙ sym same ∙ block_inside front rest is in
    none is.body rest cc

pub takes_block : (text inside body after : List ℕ) → text ≡ 47 ∷ 42 ∷ inside → inside ≡ body ++ (42 ∷ 47 ∷ after) → ((before more : List ℕ) → inside ≡ before ++ (42 ∷ 47 ∷ more) → length body ≤ length before) → Takes IsBlockComment text after
takes_block text inside body after e split next = record {
  front = 47 ∷ 42 ∷ (body ++ codes "*/");
  split = e ∙ ap (λ l. 47 ∷ 42 ∷ l) (split ∙ sym (append_assoc body (codes "*/") after));
  is = record {
    body = body;
    spelled = refl;
    next = λ before more same. next before more (split ∙ same);
  };
}

-- ---- where */ stands, by bytes and by characters

-- the bytes from a place of the characters on
drop_before : (bytes before after : List ℕ) → IsUtf8 bytes → chars bytes ≡ before ++ (42 ∷ 47 ∷ after) → drop (length (encode_utf8_all before)) bytes ≡ 42 ∷ 47 ∷ encode_utf8_all after
drop_before bytes before after u e =
    ap (drop (length (encode_utf8_all before))) (bytes_split bytes before (42 ∷ 47 ∷ after) u e)
    ∙ drop-append_seam (encode_utf8_all before) (encode_utf8_all (42 ∷ 47 ∷ after))
    ∙ encodes_two 42 47 after (lit< tt) (lit< tt)

before_le : (bytes before after : List ℕ) → IsUtf8 bytes → chars bytes ≡ before ++ after → length (encode_utf8_all before) ≤ length bytes
before_le bytes before after u e =
    omega (arith, ap length (bytes_split bytes before after u e), length-append (encode_utf8_all before) (encode_utf8_all after))

pub no_end : (bytes : List ℕ) → IsUtf8 bytes → ((i : ℕ) → i ≤ length bytes → (rest : List ℕ) → drop i bytes ≡ 42 ∷ 47 ∷ rest → ⊥) → (before after : List ℕ) → chars bytes ≡ before ++ (42 ∷ 47 ∷ after) → ⊥
no_end bytes u none before after e =
    none (length (encode_utf8_all before)) (before_le bytes before _ u e) (encode_utf8_all after) (drop_before bytes before after u e)

module _ (bytes : List ℕ) (at next : ℕ) (u : IsUtf8 bytes) (split : drop at bytes ≡ 42 ∷ 47 ∷ drop next bytes) where
  star_at : get_or bytes at 0 ≡ 42
  star_at = (let sum : at + 0 ≡ at = omega arith in sym (ap (λ i. get_or bytes i 0) sum) ∙ sym (get_or-drop at bytes 0 0) ∙ ap (λ l. get_or l 0 0) split)

  at_in : at < length bytes
  at_in = omega (arith, ap length split, length-drop at bytes)

  cut : IsCharBoundary bytes at
  cut = IsCharBoundary-before_ascii bytes at at_in (omega (arith, star_at))

  -- the characters before */ are those of the bytes before it
  pub end_chars : chars bytes ≡ chars (take at bytes) ++ (42 ∷ 47 ∷ chars (drop next bytes))
  end_chars =
      ap chars (sym (take-append-drop at bytes))
      ∙ chars-append (take at bytes) (drop at bytes) (IsUtf8-take bytes at u cut)
      ∙ ap (λ l. chars (take at bytes) ++ l) (chars_two 42 47 (drop at bytes) (drop next bytes) (lit< tt) (lit< tt) (IsUtf8-drop bytes at u cut) split)

  -- and where no */ stands before it in the bytes, none does in the characters
  pub end_first : ((i : ℕ) → i < at → (rest : List ℕ) → drop i bytes ≡ 42 ∷ 47 ∷ rest → ⊥) → (before more : List ℕ) → chars bytes ≡ before ++ (42 ∷ 47 ∷ more) → length (chars (take at bytes)) ≤ length before
  end_first none before more e =
      elim (cases_lt (length before) (length (chars (take at bytes)))) [
        | inl shorter ↦
            let longer = longer_front before (chars (take at bytes)) (42 ∷ 47 ∷ more) (42 ∷ 47 ∷ chars (drop next bytes)) (sym e ∙ end_chars) shorter in
            let front : take at bytes ≡ encode_utf8_all before ++ encode_utf8_all (longer.0 ∷ longer.1) =
            bytes_split (take at bytes) before (longer.0 ∷ longer.1) (IsUtf8-take bytes at u cut) longer.2 in
            absurd (none (length (encode_utf8_all before))
            (omega (arith, ap length front, length-append (encode_utf8_all before) (encode_utf8_all (longer.0 ∷ longer.1)), length-le-encodes (longer.0 ∷ longer.1), length-take-le at bytes (omega (arith, at_in))))
            (encode_utf8_all more) (drop_before bytes before more u e))
        | inr at_most ↦ at_most
      ]
