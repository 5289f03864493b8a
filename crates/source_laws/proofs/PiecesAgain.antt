-- A piece before one text is the longest before another, where the other doesn't go on with it.
use Rattle.std.proofs.Common.{◌≡◌, ◌≢◌, ℕ, ◌<◌, ◌≤◌, Bool, true, false, ◌||◌, ◌==◌, List, [], ◌∷◌, ◌++◌, length, Option, Some, None, IsTrue, IsFalse, sym, refl, ◌∙◌, subst, arith, codes, inl, inr, append_assoc}
use Rattle.std.specs.List.{list_any}
use Rattle.std.specs.Char.{is_ascii_digit}
use Rattle.std.proofs.lemmas.Bool.{and_right, both_ways, cases_Bool, cases_lt}
use Rattle.std.proofs.lemmas.List.{append_cancel_right}
use Rattle.unicode_ident.specs.Ident.{is_xid_continue}
use Rattle.unicode_ident.proofs.IdentLemmas.{is_xid_start-ascii, is_xid_continue-ascii}
use Rattle.qz_lexer.specs.declared.tokens.TokenKind.{TokenKind}
use Rattle.qz_lexer.specs.declared.tokens.TokenKind.TheVariants.{Name, Keyword, Number, Literal, Sign}
use Rattle.qz_lexer.specs.Runs.{Lacks, Stops, IsRun, is_of_line}
use Rattle.qz_lexer.specs.Blanks.{is_space, IsSpace, space, comment, line, block, IsLineComment, IsBlockComment}
use Rattle.qz_lexer.specs.Words.{is_single_sign, is_double_sign, is_sign, is_reserved, IsWord, IsLiteral, IsNumber, IsValue}
use Rattle.qz_lexer.specs.Pieces.{IsPiece, IsLongest, BeginsWith}
use Rattle.qz_lexer.specs.Starts.{start_of}
use Rattle.qz_lexer.proofs.RunLemmas.{run_head}
use Rattle.qz_lexer.proofs.WordLemmas.{word_run}
use Rattle.qz_lexer.proofs.StartLemmas.{fits, piece_start, no_empty_piece, space_start, digit_start, slash_start, letter_start, sign_start, double_single}
use Rattle.qz_lexer.proofs.ValueLemmas.{no_value_start}
use Rattle.qz_lexer.proofs.PieceLemmas.{begins_space, begins_comment, begins_number, begins_literal, begins_name, begins_keyword, IsAlone, begins_single, begins_double}

-- no piece begins with a quote
quote_single : is_single_sign 39 ≡ false
unfolding is_single_sign
quote_single = refl

no_quote_sign : (cs : List ℕ) → is_sign (39 ∷ cs) ≡ true → ⊥
no_quote_sign [] is = both_ways (is_single_sign 39) quote_single is
no_quote_sign (d ∷ []) is = both_ways (is_single_sign 39) quote_single (double_single 39 d is)
no_quote_sign (d ∷ e ∷ cs) is = cc

no_quote_fits : (kind : Option TokenKind) → fits kind (start_of 39) ≡ true → kind ≡ Some Sign
no_quote_fits None h = absurd (cc (rw (is_xid_start-ascii 39 (omega arith)) at h))
no_quote_fits (Some Name) h = absurd (cc (rw (is_xid_start-ascii 39 (omega arith)) at h))
no_quote_fits (Some Keyword) h = absurd (cc (rw (is_xid_start-ascii 39 (omega arith)) at h))
no_quote_fits (Some Number) h = absurd (cc (rw (is_xid_start-ascii 39 (omega arith)) at h))
no_quote_fits (Some Literal) h = absurd (cc (rw (is_xid_start-ascii 39 (omega arith)) at h))
no_quote_fits (Some Sign) h = refl

pub no_quote : (kind : Option TokenKind) (c : ℕ) (cs rest : List ℕ) → IsPiece kind (c ∷ cs) rest → c ≢ 39
no_quote kind c cs rest is e =
    let quoted : IsPiece kind (39 ∷ cs) rest = subst (λ x. IsPiece kind (x ∷ cs) rest) e is in
    let sign : kind ≡ Some Sign = no_quote_fits kind (piece_start kind 39 cs rest quoted) in
    no_quote_sign cs (subst (λ k. IsPiece k (39 ∷ cs) rest) sign quoted)

-- what follows begins with a character that isn't a quote, and this is said of the character
pub record Next (P : ℕ → Type 0) (rest : List ℕ) : Type 0 where
  pub first : ℕ
  pub more : List ℕ
  pub is : rest ≡ first ∷ more
  pub no_quote : first ≢ 39
  pub says : P first

stops_next : (p : ℕ → Bool) (rest : List ℕ) → Next (λ d. IsFalse (p d)) rest → Stops p rest
stops_next p rest next = subst (Stops p) (sym next.is) next.says

run_again : (p : ℕ → Bool) (run r rest : List ℕ) → IsRun p run r → Next (λ d. IsFalse (p d)) rest → IsRun p run rest
run_again p run r rest is next = record { each = is.each; stops = stops_next p rest next }

lacks_value : (rest : List ℕ) (d : ℕ) (more : List ℕ) → rest ≡ d ∷ more → d ≢ 39 → Lacks IsValue rest
lacks_value rest d more is other = no_value_start rest (λ after e. other (let both : d ∷ more ≡ 39 ∷ 100 ∷ after = sym is ∙ e in cc))

-- a text that begins with a piece before the rest
front_longest : (kind : Option TokenKind) (text rest : List ℕ) → BeginsWith (text ++ rest) kind rest → IsLongest (record { kind = kind; text = text }) rest
front_longest kind text rest b = subst (λ t. IsLongest (record { kind = kind; text = t }) rest) (append_cancel_right b.front text rest (sym b.split)) b.is

-- names and reserved words
name_again : (text r rest : List ℕ) → IsWord text r → is_reserved text ≡ false → Next (λ d. IsFalse (is_xid_continue d)) rest → IsLongest (record { kind = Some Name; text = text }) rest
name_again [] r rest is free next = absurd is
name_again (c ∷ cs) r rest is free next =
    let run = word_run (c ∷ cs) r is in
    front_longest (Some Name) (c ∷ cs) rest (begins_name ((c ∷ cs) ++ rest) (c ∷ cs) rest (letter_start c is.0) refl (run_again is_xid_continue (c ∷ cs) r rest run.0 next) run.1 free)

keyword_again : (text r rest : List ℕ) → IsWord text r → is_reserved text ≡ true → Next (λ d. IsFalse (is_xid_continue d)) rest → IsLongest (record { kind = Some Keyword; text = text }) rest
keyword_again [] r rest is free next = absurd is
keyword_again (c ∷ cs) r rest is free next =
    let run = word_run (c ∷ cs) r is in
    front_longest (Some Keyword) (c ∷ cs) rest (begins_keyword ((c ∷ cs) ++ rest) (c ∷ cs) rest (letter_start c is.0) refl (run_again is_xid_continue (c ∷ cs) r rest run.0 next) run.1 free)

-- numbers and literals
number_again : (text r rest : List ℕ) → IsNumber text r → Next (λ d. IsFalse (is_ascii_digit d)) rest → IsLongest (record { kind = Some Number; text = text }) rest
number_again [] r rest is next = absurd (omega (arith, is.1))
number_again (c ∷ cs) r rest is next =
    front_longest (Some Number) (c ∷ cs) rest (begins_number ((c ∷ cs) ++ rest) (c ∷ cs) rest (digit_start c (run_head is_ascii_digit c cs r is.0)) refl (run_again is_ascii_digit (c ∷ cs) r rest is.0 next) is.2 (lacks_value rest next.first next.more next.is next.no_quote))

literal_parts : (width value : List ℕ) (r rest : List ℕ) → IsNumber width (value ++ r) → IsValue value r → Next (λ d. IsFalse (is_ascii_digit d)) rest → IsLongest (record { kind = Some Literal; text = width ++ value }) rest
literal_parts [] value r rest width is next = absurd (omega (arith, width.1))
literal_parts (c ∷ cs) value r rest width is next =
    let value_is : IsValue value rest = record { digits = is.digits; spelled = is.spelled; number = (run_again is_ascii_digit is.digits r rest is.number.0 next, is.number.1, is.number.2) } in
    let stops : Stops is_ascii_digit (value ++ rest) = subst (λ v. Stops is_ascii_digit (v ++ rest)) (sym is.spelled) refl in
    front_longest (Some Literal) ((c ∷ cs) ++ value) rest (begins_literal (((c ∷ cs) ++ value) ++ rest) (c ∷ cs) (value ++ rest) (digit_start c (run_head is_ascii_digit c cs (value ++ r) width.0)) (append_assoc (c ∷ cs) value rest)
    (record { each = width.0.each; stops = stops }) rest width.2 (record { front = value; split = refl; is = value_is }))

literal_again : (text r rest : List ℕ) → IsLiteral text r → Next (λ d. IsFalse (is_ascii_digit d)) rest → IsLongest (record { kind = Some Literal; text = text }) rest
literal_again text r rest is next =
    subst (λ t. IsLongest (record { kind = Some Literal; text = t }) rest) (sym is.spelled) (literal_parts is.width is.value r rest is.is_width is.is_value next)

-- signs
alone_next : (c : ℕ) (rest : List ℕ) (d : ℕ) (more : List ℕ) → rest ≡ d ∷ more → is_double_sign c d ≡ false → IsAlone c rest
alone_next c rest d more is alone = subst (IsAlone c) (sym is) alone

single_again : (c : ℕ) (rest : List ℕ) (d : ℕ) (more : List ℕ) → rest ≡ d ∷ more → is_single_sign c ≡ true → is_double_sign c d ≡ false → IsLongest (record { kind = Some Sign; text = c ∷ [] }) rest
single_again c rest d more next is alone = front_longest (Some Sign) (c ∷ []) rest (begins_single (c ∷ rest) (sign_start c is) c rest refl is (alone_next c rest d more next alone))

double_again : (c d : ℕ) (rest : List ℕ) → is_double_sign c d ≡ true → IsLongest (record { kind = Some Sign; text = c ∷ d ∷ [] }) rest
double_again c d rest is = front_longest (Some Sign) (c ∷ d ∷ []) rest (begins_double (c ∷ d ∷ rest) (sign_start c (double_single c d is)) c d rest refl is)

-- white space and comments
pub space_again : (c : ℕ) (rest : List ℕ) → IsTrue (is_space c) → IsLongest (record { kind = None; text = c ∷ [] }) rest
space_again c rest is = front_longest None (c ∷ []) rest (begins_space (c ∷ rest) rest c (space_start c is) refl)

line_again : (text r rest : List ℕ) → IsLineComment text r → Next (λ d. IsFalse (is_of_line d)) rest → IsLongest (record { kind = None; text = text }) rest
line_again [] r rest is next = absurd (let e = is.spelled in cc)
line_again (c ∷ cs) r rest is next =
    front_longest None (c ∷ cs) rest (begins_comment ((c ∷ cs) ++ rest) rest (slash_start c (let e = is.spelled in cc)) (record {
      front = c ∷ cs;
      split = refl;
      is = line (record { body = is.body; spelled = is.spelled; whole = run_again is_of_line is.body r rest is.whole next });
    }))

-- where two characters end a front inside a longer one that ends with them, they do so whatever follows
inside : (s t : ℕ) → s ≢ t → (before body r after rest : List ℕ) → body ++ (s ∷ t ∷ rest) ≡ before ++ (s ∷ t ∷ after) → length before < length body
    → (other : List ℕ) × (body ++ (s ∷ t ∷ r) ≡ before ++ (s ∷ t ∷ other))
inside s t differ [] [] r after rest e less = absurd (omega arith)
inside s t differ [] (b ∷ []) r after rest e less = absurd (differ (let second : s ≡ t = cc in second))
inside s t differ [] (b ∷ c ∷ body) r after rest e less =
    let first : b ≡ s = cc in
    let second : c ≡ t = cc in
    (body ++ (s ∷ t ∷ r), (λ i. first i ∷ second i ∷ (body ++ (s ∷ t ∷ r))))
inside s t differ (a ∷ before) [] r after rest e less = absurd (omega arith)
inside s t differ (a ∷ before) (b ∷ body) r after rest e less =
    let first : b ≡ a = cc in
    let tail : body ++ (s ∷ t ∷ rest) ≡ before ++ (s ∷ t ∷ after) = cc in
    let found = inside s t differ before body r after rest tail (omega arith) in
    (found.0, (λ i. first i ∷ found.1 i))

star_no_slash : ◌≢◌ {A = ℕ} 42 47
star_no_slash e = omega (arith, e)

block_next : (text r rest : List ℕ) → (is : IsBlockComment text r) → (before after : List ℕ) → is.body ++ (codes "*/" ++ rest) ≡ before ++ (codes "*/" ++ after) → length is.body ≤ length before
block_next text r rest is before after e = elim (cases_lt (length before) (length is.body)) [
  | inl less ↦
      let found = inside 42 47 star_no_slash before is.body r after rest e less in
      is.next before found.0 found.1
  | inr at_most ↦ at_most
]

block_again : (text r rest : List ℕ) → IsBlockComment text r → IsLongest (record { kind = None; text = text }) rest
block_again [] r rest is = absurd (let e = is.spelled in cc)
block_again (c ∷ cs) r rest is =
    front_longest None (c ∷ cs) rest (begins_comment ((c ∷ cs) ++ rest) rest (slash_start c (let e = is.spelled in cc)) (record {
      front = c ∷ cs;
      split = refl;
      is = block (record { body = is.body; spelled = is.spelled; next = block_next (c ∷ cs) r rest is });
    }))

-- a token before a space
space_no_quote : ◌≢◌ {A = ℕ} 32 39
space_no_quote e = omega (arith, e)

space_ends_word : IsFalse (is_xid_continue 32)
space_ends_word = is_xid_continue-ascii 32 (omega arith)

after_space : (p : ℕ → Bool) → IsFalse (p 32) → (more : List ℕ) → Next (λ d. IsFalse (p d)) (32 ∷ more)
after_space p ends more = record { first = 32; more = more; is = refl; no_quote = space_no_quote; says = ends }

no_space_sign : (c : ℕ) → is_double_sign c 32 ≡ false
unfolding is_double_sign
no_space_sign c =
    (λ i. (and_right (list_any (λ sign. sign == c) (codes "=!<>")) (32 == 61) refl i || and_right (c == 45) (32 == 62) refl i) || and_right (c == 124) (32 == 124) refl i)

pub token_again : (kind : TokenKind) (text r more : List ℕ) → IsPiece (Some kind) text r → IsLongest (record { kind = Some kind; text = text }) (32 ∷ more)
token_again Name text r more is = name_again text r (32 ∷ more) is.0 is.1 (after_space is_xid_continue space_ends_word more)
token_again Keyword text r more is = keyword_again text r (32 ∷ more) is.0 is.1 (after_space is_xid_continue space_ends_word more)
token_again Number text r more is = number_again text r (32 ∷ more) is (after_space is_ascii_digit refl more)
token_again Literal text r more is = literal_again text r (32 ∷ more) is (after_space is_ascii_digit refl more)
token_again Sign text r more is = sign_space text more is
  where
    sign_space : (text more : List ℕ) → is_sign text ≡ true → IsLongest (record { kind = Some Sign; text = text }) (32 ∷ more)
    sign_space [] more is = absurd (cc (is))
    sign_space (c ∷ []) more is = single_again c (32 ∷ more) 32 more refl is (no_space_sign c)
    sign_space (c ∷ d ∷ []) more is = double_again c d (32 ∷ more) is
    sign_space (c ∷ d ∷ e ∷ cs) more is = absurd (cc (is))

-- a piece before a text that begins with the same character
module _ (text : List ℕ) (d : ℕ) (r more : List ℕ) (other : d ≢ 39) where
  abbrev next_is : (p : ℕ → Bool) → Stops p (d ∷ r) → Next (λ x. IsFalse (p x)) (d ∷ more)
  next_is p stops = record { first = d; more = more; is = refl; no_quote = other; says = stops }

  blank_again : IsPiece None text (d ∷ r) → IsLongest (record { kind = None; text = text }) (d ∷ more)
  blank_again (space is) = one_space text is
    where
      one_space : (cs : List ℕ) → IsSpace cs → IsLongest (record { kind = None; text = cs }) (d ∷ more)
      one_space [] is = absurd is
      one_space (c ∷ []) is = space_again c (d ∷ more) is
      one_space (c ∷ b ∷ cs) is = absurd is
  blank_again (comment (line is)) = line_again text (d ∷ r) (d ∷ more) is (next_is is_of_line is.whole.stops)
  blank_again (comment (block is)) = block_again text (d ∷ r) (d ∷ more) is

word_stops : (text : List ℕ) (d : ℕ) (r : List ℕ) → IsWord text (d ∷ r) → IsFalse (is_xid_continue d)
word_stops text d r is = (word_run text (d ∷ r) is).0.stops

sign_before : (text : List ℕ) (d : ℕ) (r more : List ℕ) → IsLongest (record { kind = Some Sign; text = text }) (d ∷ r) → IsLongest (record { kind = Some Sign; text = text }) (d ∷ more)
sign_before [] d r more is = absurd (no_empty_piece (Some Sign) (d ∷ r) is.is)
sign_before (c ∷ []) d r more is = elim (cases_Bool (is_double_sign c d)) [
  | inl double ↦ absurd (let longer : 2 ≤ 1 = is.longest (Some Sign) (c ∷ d ∷ []) r refl double in omega (arith, longer))
  | inr alone ↦ single_again c (d ∷ more) d more refl is.is alone
]
sign_before (c ∷ b ∷ []) d r more is = double_again c b (d ∷ more) is.is
sign_before (c ∷ b ∷ a ∷ cs) d r more is = absurd (let no = is.is in cc)

pub piece_again : (kind : Option TokenKind) (text : List ℕ) (d : ℕ) (r more : List ℕ) → d ≢ 39 → IsLongest (record { kind = kind; text = text }) (d ∷ r) → IsLongest (record { kind = kind; text = text }) (d ∷ more)
piece_again None text d r more other is = blank_again text d r more other is.is
piece_again (Some Name) text d r more other is = name_again text (d ∷ r) (d ∷ more) is.is.0 is.is.1 (next_is text d r more other is_xid_continue (word_stops text d r is.is.0))
piece_again (Some Keyword) text d r more other is = keyword_again text (d ∷ r) (d ∷ more) is.is.0 is.is.1 (next_is text d r more other is_xid_continue (word_stops text d r is.is.0))
piece_again (Some Number) text d r more other is = number_again text (d ∷ r) (d ∷ more) is.is (next_is text d r more other is_ascii_digit is.is.0.stops)
piece_again (Some Literal) text d r more other is = literal_again text (d ∷ r) (d ∷ more) is.is (next_is text d r more other is_ascii_digit is.is.is_value.number.0.stops)
piece_again (Some Sign) text d r more other is = sign_before text d r more is
