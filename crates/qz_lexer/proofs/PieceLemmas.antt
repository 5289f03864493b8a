-- Which piece is the longest, sort by sort.
use Rattle.std.proofs.Common.{◌≡◌, ℕ, ◌<◌, ◌≤◌, true, false, List, [], ◌∷◌, ◌++◌, length, Option, Some, None, sym, refl, ap, ◌∙◌, subst, arith, codes, append_assoc, length-append}
use Rattle.std.specs.Char.{is_ascii_digit}
use Rattle.std.proofs.lemmas.Bool.{both_ways}
use Rattle.unicode_ident.specs.Ident.{is_xid_continue}
use Rattle.unicode_ident.proofs.IdentLemmas.{is_xid_start-is_xid_continue}
use Rattle.qz_lexer.specs.declared.starts.Start.TheVariants.{Space, Digit, Slash, Letter, Other}
use Rattle.qz_lexer.specs.declared.tokens.TokenKind.{TokenKind}
use Rattle.qz_lexer.specs.declared.tokens.TokenKind.TheVariants.{Name, Keyword, Number, Literal, Sign}
use Rattle.std.proofs.lemmas.List.{append_cancel_left}
use Rattle.qz_lexer.specs.Runs.{Takes, Lacks, IsRun, is_of_line}
use Rattle.qz_lexer.specs.Blanks.{IsSpace, space, comment, IsComment, line, block, IsLineComment, IsBlockComment}
use Rattle.qz_lexer.specs.Words.{is_single_sign, is_double_sign, is_sign, is_reserved, IsWord, IsLiteral, IsNumber, IsValue}
use Rattle.qz_lexer.specs.Pieces.{IsPiece, BeginsWith, NoneBegins}
use Rattle.qz_lexer.specs.Starts.{StartsWith}
use Rattle.qz_lexer.proofs.RunLemmas.{run_same, run_begins, run_tail}
use Rattle.qz_lexer.proofs.WordLemmas.{word_run}
use Rattle.qz_lexer.proofs.StartLemmas.{misfit, front_start, comment_start, space_piece_start, no_empty_piece, space_is, digit_is, letter_is, double_single}

-- nothing begins where the text has ended
pub none_begins_empty : (text : List ℕ) → text ≡ [] → NoneBegins text
none_begins_empty text ended kind [] rest e is = no_empty_piece kind rest is
none_begins_empty text ended kind (c ∷ front) rest e is = (let both = e ∙ ended in cc)

-- ---- white space

module _ (text : List ℕ) (starts : StartsWith Space text) where
  -- a comment begins with /
  no_comment : (front rest : List ℕ) → front ++ rest ≡ text → IsComment front rest → ⊥
  no_comment [] rest e is = no_empty_piece None rest (comment is)
  no_comment (c ∷ front) rest e is =
      let slash = comment_start c front rest is in
      let blank = front_start Space text c front rest starts e in
      cc

  space_longest : (kind : Option TokenKind) (front rest : List ℕ) → front ++ rest ≡ text → IsPiece kind front rest → length front ≤ 1
  space_longest None [] rest e (space is) = absurd is
  space_longest None (c ∷ []) rest e (space is) = omega arith
  space_longest None (c ∷ d ∷ front) rest e (space is) = absurd is
  space_longest None front rest e (comment is) = absurd (no_comment front rest e is)
  space_longest (Some Name) front rest e is = absurd (misfit Space text (Some Name) front rest starts e is refl)
  space_longest (Some Keyword) front rest e is = absurd (misfit Space text (Some Keyword) front rest starts e is refl)
  space_longest (Some Number) front rest e is = absurd (misfit Space text (Some Number) front rest starts e is refl)
  space_longest (Some Literal) front rest e is = absurd (misfit Space text (Some Literal) front rest starts e is refl)
  space_longest (Some Sign) front rest e is = absurd (misfit Space text (Some Sign) front rest starts e is refl)

pub begins_space : (text after : List ℕ) (c : ℕ) → StartsWith Space text → text ≡ c ∷ after → BeginsWith text None after
begins_space text after c starts e = record {
  front = c ∷ [];
  split = e;
  is = record {
    is = space (space_is c (subst (StartsWith Space) e starts));
    longest = λ kind other more same is. space_longest text starts kind other more (same ∙ sym e) is;
  };
}

-- ---- comments

-- a text begins with one line comment at most, and with one block comment
line_same : (a b r s : List ℕ) → IsLineComment a r → IsLineComment b s → a ++ r ≡ b ++ s → a ≡ b
line_same a b r s is other e =
    let bodies : is.body ++ r ≡ other.body ++ s =
    (let split : codes "//" ++ (is.body ++ r) ≡ codes "//" ++ (other.body ++ s) = ap (λ l. l ++ r) (sym is.spelled) ∙ e ∙ ap (λ l. l ++ s) other.spelled in
    append_cancel_left (codes "//") _ _ split) in
    is.spelled ∙ ap (λ l. codes "//" ++ l) (run_same is_of_line is.body other.body r s is.whole other.whole bodies).0 ∙ sym other.spelled

block_le : (a b r s : List ℕ) → IsBlockComment a r → IsBlockComment b s → a ++ r ≡ b ++ s → length a ≤ length b
block_le a b r s is other e =
    let whole : codes "/*" ++ ((is.body ++ codes "*/") ++ r) ≡ codes "/*" ++ ((other.body ++ codes "*/") ++ s) =
    ap (λ l. l ++ r) (sym is.spelled) ∙ e ∙ ap (λ l. l ++ s) other.spelled in
    let inside : (is.body ++ codes "*/") ++ r ≡ (other.body ++ codes "*/") ++ s = append_cancel_left (codes "/*") _ _ whole in
    let bodies : is.body ++ (codes "*/" ++ r) ≡ other.body ++ (codes "*/" ++ s) =
    sym (append_assoc is.body (codes "*/") r) ∙ inside ∙ append_assoc other.body (codes "*/") s in
    let shorter = is.next other.body s bodies in
    omega (arith, ap length is.spelled, ap length other.spelled, length-append is.body (codes "*/"), length-append other.body (codes "*/"))

line_or_block : (a b r s : List ℕ) → IsLineComment a r → IsBlockComment b s → a ++ r ≡ b ++ s → ⊥
line_or_block a b r s is other e =
    let split : codes "//" ++ (is.body ++ r) ≡ codes "/*" ++ ((other.body ++ codes "*/") ++ s) = ap (λ l. l ++ r) (sym is.spelled) ∙ e ∙ ap (λ l. l ++ s) other.spelled in
    cc

comment_le : (a r b s : List ℕ) → IsComment a r → IsComment b s → a ++ r ≡ b ++ s → length a ≤ length b
comment_le a r b s (line is) (line other) e = omega (arith, ap length (line_same a b r s is other e))
comment_le a r b s (line is) (block other) e = absurd (line_or_block a b r s is other e)
comment_le a r b s (block is) (line other) e = absurd (line_or_block b a s r other is (sym e))
comment_le a r b s (block is) (block other) e = block_le a b r s is other e

module _ (text : List ℕ) (starts : StartsWith Slash text) where
  no_space : (front rest : List ℕ) → front ++ rest ≡ text → IsSpace front → ⊥
  no_space [] rest e is = is
  no_space (c ∷ front) rest e is =
      let blank = space_piece_start c front is in
      let slash = front_start Slash text c front rest starts e in
      cc

  pub no_slash_piece : Lacks IsComment text → NoneBegins text
  no_slash_piece none None front rest e (space is) = no_space front rest e is
  no_slash_piece none None front rest e (comment is) = none front rest e is
  no_slash_piece none (Some Name) front rest e is = misfit Slash text (Some Name) front rest starts e is refl
  no_slash_piece none (Some Keyword) front rest e is = misfit Slash text (Some Keyword) front rest starts e is refl
  no_slash_piece none (Some Number) front rest e is = misfit Slash text (Some Number) front rest starts e is refl
  no_slash_piece none (Some Literal) front rest e is = misfit Slash text (Some Literal) front rest starts e is refl
  no_slash_piece none (Some Sign) front rest e is = misfit Slash text (Some Sign) front rest starts e is refl

  -- every kind but the comment's is ruled out
  comment_longest : (comment_front after : List ℕ) → IsComment comment_front after → text ≡ comment_front ++ after → (kind : Option TokenKind) (front rest : List ℕ) → front ++ rest ≡ text → IsPiece kind front rest → length front ≤ length comment_front
  comment_longest own after own_is own_e None front rest e (space is) = absurd (no_space front rest e is)
  comment_longest own after own_is own_e None front rest e (comment is) = comment_le front rest own after is own_is (e ∙ own_e)
  comment_longest own after own_is own_e (Some Name) front rest e is = absurd (misfit Slash text (Some Name) front rest starts e is refl)
  comment_longest own after own_is own_e (Some Keyword) front rest e is = absurd (misfit Slash text (Some Keyword) front rest starts e is refl)
  comment_longest own after own_is own_e (Some Number) front rest e is = absurd (misfit Slash text (Some Number) front rest starts e is refl)
  comment_longest own after own_is own_e (Some Literal) front rest e is = absurd (misfit Slash text (Some Literal) front rest starts e is refl)
  comment_longest own after own_is own_e (Some Sign) front rest e is = absurd (misfit Slash text (Some Sign) front rest starts e is refl)

pub begins_comment : (text after : List ℕ) → StartsWith Slash text → Takes IsComment text after → BeginsWith text None after
begins_comment text after starts t = record {
  front = t.front;
  split = t.split;
  is = record {
    is = comment t.is;
    longest = λ kind other more same is. comment_longest text starts t.front after t.is t.split kind other more (same ∙ sym t.split) is;
  };
}

-- ---- numbers and literals

some_digits : (text : List ℕ) → StartsWith Digit text → (digits after : List ℕ) → text ≡ digits ++ after → IsRun is_ascii_digit digits after → 1 ≤ length digits
some_digits [] starts digits after split whole = absurd starts
some_digits (c ∷ text) starts digits after split whole =
    let run = run_begins is_ascii_digit c text digits after (digit_is c starts) whole (sym split) in
    omega (arith, ap length run.1)

-- 'd and its digits are the same, however the text goes on
value_same : (a b r s : List ℕ) → IsValue a r → IsValue b s → a ++ r ≡ b ++ s → a ≡ b
value_same a b r s is other e =
    let digits : is.digits ++ r ≡ other.digits ++ s =
    (let split : codes "'d" ++ (is.digits ++ r) ≡ codes "'d" ++ (other.digits ++ s) = ap (λ l. l ++ r) (sym is.spelled) ∙ e ∙ ap (λ l. l ++ s) other.spelled in
    append_cancel_left (codes "'d") _ _ split) in
    is.spelled ∙ ap (λ l. codes "'d" ++ l) (run_same is_ascii_digit is.digits other.digits r s is.number.0 other.number.0 digits).0 ∙ sym other.spelled

module _ (text digits after : List ℕ) (starts : StartsWith Digit text) (split : text ≡ digits ++ after) (whole : IsRun is_ascii_digit digits after) where
  -- the digits of a number that begins the text are these
  same_number : (front rest : List ℕ) → front ++ rest ≡ text → IsNumber front rest → (front ≡ digits) × (rest ≡ after)
  same_number front rest e is = run_same is_ascii_digit front digits rest after is.0 whole (e ∙ split)

  same_width : (front rest : List ℕ) → front ++ rest ≡ text → (is : IsLiteral front rest) → (is.width ≡ digits) × (is.value ++ rest ≡ after)
  same_width front rest e is =
      same_number is.width (is.value ++ rest) (sym (append_assoc is.width is.value rest) ∙ ap (λ l. l ++ rest) (sym is.spelled) ∙ e) is.is_width

  digits_nonempty : 1 ≤ length digits
  digits_nonempty = some_digits text starts digits after split whole

  pub no_long_number : 20 < length digits → NoneBegins text
  no_long_number long None front rest e is = misfit Digit text None front rest starts e is refl
  no_long_number long (Some Name) front rest e is = misfit Digit text (Some Name) front rest starts e is refl
  no_long_number long (Some Keyword) front rest e is = misfit Digit text (Some Keyword) front rest starts e is refl
  no_long_number long (Some Number) front rest e is = (let same = ap length (same_number front rest e is).0 in let short = is.2 in omega arith)
  no_long_number long (Some Literal) front rest e is = (let same = ap length (same_width front rest e is).0 in let short = is.is_width.2 in omega arith)
  no_long_number long (Some Sign) front rest e is = misfit Digit text (Some Sign) front rest starts e is refl

  number_longest : Lacks IsValue after → (kind : Option TokenKind) (front rest : List ℕ) → front ++ rest ≡ text → IsPiece kind front rest → length front ≤ length digits
  number_longest none None front rest e is = absurd (misfit Digit text None front rest starts e is refl)
  number_longest none (Some Name) front rest e is = absurd (misfit Digit text (Some Name) front rest starts e is refl)
  number_longest none (Some Keyword) front rest e is = absurd (misfit Digit text (Some Keyword) front rest starts e is refl)
  number_longest none (Some Number) front rest e is = (let same = ap length (same_number front rest e is).0 in omega arith)
  number_longest none (Some Literal) front rest e is = absurd (none is.value rest (same_width front rest e is).1 is.is_value)
  number_longest none (Some Sign) front rest e is = absurd (misfit Digit text (Some Sign) front rest starts e is refl)

  pub begins_number : length digits ≤ 20 → Lacks IsValue after → BeginsWith text (Some Number) after
  begins_number short none = record {
    front = digits;
    split = split;
    is = record {
      is = (whole, digits_nonempty, short);
      longest = λ kind other more same is. number_longest none kind other more (same ∙ sym split) is;
    };
  }

  literal_longest : (value rest : List ℕ) → after ≡ value ++ rest → IsValue value rest → (kind : Option TokenKind) (front more : List ℕ) → front ++ more ≡ text → IsPiece kind front more → length front ≤ length (digits ++ value)
  literal_longest value rest found is_value None front more e is = absurd (misfit Digit text None front more starts e is refl)
  literal_longest value rest found is_value (Some Name) front more e is = absurd (misfit Digit text (Some Name) front more starts e is refl)
  literal_longest value rest found is_value (Some Keyword) front more e is = absurd (misfit Digit text (Some Keyword) front more starts e is refl)
  literal_longest value rest found is_value (Some Number) front more e is =
      let same = ap length (same_number front more e is).0 in
      omega (arith, length-append digits value)
  literal_longest value rest found is_value (Some Literal) front more e is =
      let width = same_width front more e is in
      let same_value = value_same is.value value more rest is.is_value is_value (width.1 ∙ found) in
      let same : front ≡ digits ++ value = is.spelled ∙ (λ i. width.0 i ++ same_value i) in
      omega (arith, ap length same)
  literal_longest value rest found is_value (Some Sign) front more e is = absurd (misfit Digit text (Some Sign) front more starts e is refl)

  pub begins_literal : (rest : List ℕ) → length digits ≤ 20 → Takes IsValue after rest → BeginsWith text (Some Literal) rest
  begins_literal rest short t = record {
    front = digits ++ t.front;
    split = split ∙ ap (λ l. digits ++ l) t.split ∙ sym (append_assoc digits t.front rest);
    is = record {
      is = record {
        width = digits;
        value = t.front;
        spelled = refl;
        is_width = subst (IsNumber digits) t.split (whole, digits_nonempty, short);
        is_value = t.is;
      };
      longest = λ kind other more same is. literal_longest t.front rest t.split t.is kind other more
          (same ∙ append_assoc digits t.front rest ∙ ap (λ l. digits ++ l) (sym t.split) ∙ sym split) is;
    };
  }

-- ---- names and reserved words

word_of : (text : List ℕ) → StartsWith Letter text → (run after : List ℕ) → text ≡ run ++ after → IsRun is_xid_continue run after → length run ≤ 64 → IsWord run after
word_of [] starts run after split whole short = absurd starts
word_of (c ∷ text) starts run after split whole short =
    let start = letter_is c starts in
    let begins = run_begins is_xid_continue c text run after (is_xid_start-is_xid_continue c start) whole (sym split) in
    subst (λ w. IsWord w after) (sym begins.1)
    (start, run_tail is_xid_continue c begins.0 after (subst (λ w. IsRun is_xid_continue w after) begins.1 whole), omega (arith, ap length begins.1))

module _ (text run after : List ℕ) (starts : StartsWith Letter text) (split : text ≡ run ++ after) (whole : IsRun is_xid_continue run after) where
  -- a word that begins the text is this run
  same_word : (front rest : List ℕ) → front ++ rest ≡ text → IsWord front rest → front ≡ run
  same_word front rest e is = (run_same is_xid_continue front run rest after (word_run front rest is).0 whole (e ∙ split)).0

  word_le : (front rest : List ℕ) → front ++ rest ≡ text → IsWord front rest → length front ≤ length run
  word_le front rest e is = omega (arith, ap length (same_word front rest e is))

  word_longest : (kind : Option TokenKind) (front rest : List ℕ) → front ++ rest ≡ text → IsPiece kind front rest → length front ≤ length run
  word_longest None front rest e is = absurd (misfit Letter text None front rest starts e is refl)
  word_longest (Some Name) front rest e is = word_le front rest e is.0
  word_longest (Some Keyword) front rest e is = word_le front rest e is.0
  word_longest (Some Number) front rest e is = absurd (misfit Letter text (Some Number) front rest starts e is refl)
  word_longest (Some Literal) front rest e is = absurd (misfit Letter text (Some Literal) front rest starts e is refl)
  word_longest (Some Sign) front rest e is = absurd (misfit Letter text (Some Sign) front rest starts e is refl)

  too_long : 64 < length run → (front rest : List ℕ) → front ++ rest ≡ text → IsWord front rest → ⊥
  too_long long front rest e is = omega (arith, ap length (same_word front rest e is), (word_run front rest is).1)

  pub no_long_word : 64 < length run → NoneBegins text
  no_long_word long None front rest e is = misfit Letter text None front rest starts e is refl
  no_long_word long (Some Name) front rest e is = too_long long front rest e is.0
  no_long_word long (Some Keyword) front rest e is = too_long long front rest e is.0
  no_long_word long (Some Number) front rest e is = misfit Letter text (Some Number) front rest starts e is refl
  no_long_word long (Some Literal) front rest e is = misfit Letter text (Some Literal) front rest starts e is refl
  no_long_word long (Some Sign) front rest e is = misfit Letter text (Some Sign) front rest starts e is refl

  pub begins_name : length run ≤ 64 → is_reserved run ≡ false → BeginsWith text (Some Name) after
  begins_name short free = record {
    front = run;
    split = split;
    is = record {
      is = (word_of text starts run after split whole short, free);
      longest = λ kind other more same is. word_longest kind other more (same ∙ sym split) is;
    };
  }

  pub begins_keyword : length run ≤ 64 → is_reserved run ≡ true → BeginsWith text (Some Keyword) after
  begins_keyword short reserved = record {
    front = run;
    split = split;
    is = record {
      is = (word_of text starts run after split whole short, reserved);
      longest = λ kind other more same is. word_longest kind other more (same ∙ sym split) is;
    };
  }

-- ---- signs

-- no second character makes a sign with c
abbrev pub IsAlone : ℕ → List ℕ → Type 0
IsAlone c [] = Unit {0}
IsAlone c (d ∷ rest) = is_double_sign c d ≡ false

-- the longest sign of a text whose first character is c
sign_le_one : (c : ℕ) (after : List ℕ) → IsAlone c after → (front rest : List ℕ) → front ++ rest ≡ c ∷ after → is_sign front ≡ true → length front ≤ 1
sign_le_one c after alone [] rest e is = omega arith
sign_le_one c after alone (a ∷ []) rest e is = omega arith
sign_le_one c [] alone (a ∷ b ∷ []) rest e is = cc
sign_le_one c (d ∷ after) alone (a ∷ b ∷ []) rest e is =
    let first : a ≡ c = cc in
    let second : b ≡ d = cc in
    absurd (both_ways (is_double_sign c d) alone (sym (λ i. is_double_sign (first i) (second i)) ∙ is))
sign_le_one c after alone (a ∷ b ∷ x ∷ front) rest e is = cc

sign_le_two : (front : List ℕ) → is_sign front ≡ true → length front ≤ 2
sign_le_two [] is = omega arith
sign_le_two (a ∷ []) is = omega arith
sign_le_two (a ∷ b ∷ []) is = omega arith
sign_le_two (a ∷ b ∷ x ∷ front) is = cc

no_sign_at : (c : ℕ) (after : List ℕ) → is_single_sign c ≡ false → (front rest : List ℕ) → front ++ rest ≡ c ∷ after → is_sign front ≡ true → ⊥
no_sign_at c after none [] rest e is = cc
no_sign_at c after none (a ∷ []) rest e is =
    let first : a ≡ c = cc in
    both_ways (is_single_sign c) none (sym (ap is_single_sign first) ∙ is)
no_sign_at c after none (a ∷ b ∷ []) rest e is =
    let first : a ≡ c = cc in
    both_ways (is_single_sign c) none (sym (ap is_single_sign first) ∙ double_single a b is)
no_sign_at c after none (a ∷ b ∷ x ∷ front) rest e is = cc

module _ (text : List ℕ) (starts : StartsWith Other text) where
  sign_longest : (n : ℕ) → ((front rest : List ℕ) → front ++ rest ≡ text → is_sign front ≡ true → length front ≤ n) → (kind : Option TokenKind) (front rest : List ℕ) → front ++ rest ≡ text → IsPiece kind front rest → length front ≤ n
  sign_longest n most None front rest e is = absurd (misfit Other text None front rest starts e is refl)
  sign_longest n most (Some Name) front rest e is = absurd (misfit Other text (Some Name) front rest starts e is refl)
  sign_longest n most (Some Keyword) front rest e is = absurd (misfit Other text (Some Keyword) front rest starts e is refl)
  sign_longest n most (Some Number) front rest e is = absurd (misfit Other text (Some Number) front rest starts e is refl)
  sign_longest n most (Some Literal) front rest e is = absurd (misfit Other text (Some Literal) front rest starts e is refl)
  sign_longest n most (Some Sign) front rest e is = most front rest e is

  pub no_sign_piece : (c : ℕ) (after : List ℕ) → text ≡ c ∷ after → is_single_sign c ≡ false → NoneBegins text
  no_sign_piece c after split none None front rest e is = misfit Other text None front rest starts e is refl
  no_sign_piece c after split none (Some Name) front rest e is = misfit Other text (Some Name) front rest starts e is refl
  no_sign_piece c after split none (Some Keyword) front rest e is = misfit Other text (Some Keyword) front rest starts e is refl
  no_sign_piece c after split none (Some Number) front rest e is = misfit Other text (Some Number) front rest starts e is refl
  no_sign_piece c after split none (Some Literal) front rest e is = misfit Other text (Some Literal) front rest starts e is refl
  no_sign_piece c after split none (Some Sign) front rest e is = no_sign_at c after none front rest (e ∙ split) is

  pub begins_single : (c : ℕ) (after : List ℕ) → text ≡ c ∷ after → is_single_sign c ≡ true → IsAlone c after → BeginsWith text (Some Sign) after
  begins_single c after split single alone = record {
    front = c ∷ [];
    split = split;
    is = record {
      is = single;
      longest = λ kind other more same is. sign_longest 1 (λ front rest e sign. sign_le_one c after alone front rest (e ∙ split) sign) kind other more (same ∙ sym split) is;
    };
  }

  pub begins_double : (c d : ℕ) (after : List ℕ) → text ≡ c ∷ d ∷ after → is_double_sign c d ≡ true → BeginsWith text (Some Sign) after
  begins_double c d after split double = record {
    front = c ∷ d ∷ [];
    split = split;
    is = record {
      is = double;
      longest = λ kind other more same is. sign_longest 2 (λ front rest e sign. sign_le_two front sign) kind other more (same ∙ sym split) is;
    };
  }
