-- A text is cut into pieces in one way.
use Rattle.std.proofs.Common.{◌≡◌, ℕ, Bool, false, ◌&&◌, cond, List, [], ◌∷◌, ◌++◌, Option, Some, None, Result, Ok, Err, sym, refl, ap, ◌∙◌, subst, arith}
use Rattle.std.specs.List.{list_all, flat_map}
use Rattle.std.specs.Char.{is_ascii_digit}
use Rattle.std.proofs.lemmas.Bool.{and_right}
use Rattle.qz_lexer.specs.declared.starts.Start.{Start}
use Rattle.qz_lexer.specs.declared.starts.Start.TheVariants.{Space, Digit, Slash, Letter, Other}
use Rattle.qz_lexer.specs.declared.tokens.TokenKind.{TokenKind}
use Rattle.qz_lexer.specs.declared.tokens.TokenKind.TheVariants.{Name, Keyword, Number, Literal, Sign}
use Rattle.qz_lexer.specs.Blanks.{space, comment}
use Rattle.qz_lexer.specs.Words.{is_reserved, IsLiteral}
use Rattle.qz_lexer.specs.Starts.{start_of}
use Rattle.qz_lexer.specs.Pieces.{IsPiece, IsLongest, Piece, Cuts, NoneBegins}
use Rattle.qz_lexer.specs.Lexemes.{Lexeme, lexemes, byte_count, Lexes}
use Rattle.qz_lexer.proofs.ListLemmas.{same_fronts}
use Rattle.qz_lexer.proofs.RunLemmas.{run_head}
use Rattle.qz_lexer.proofs.StartLemmas.{space_piece_start, comment_start, letter_start, digit_start, literal_start, sign_start, double_single, no_empty_piece}
use Rattle.qz_lexer.proofs.PieceLemmas.{none_begins_empty}

-- ---- the kind of a piece, by its characters

kind_by : Start → List ℕ → Option TokenKind
kind_by Space text = None
kind_by Slash text = None
kind_by Digit text = cond (list_all is_ascii_digit text) (Some Number) (Some Literal)
kind_by Letter text = cond (is_reserved text) (Some Keyword) (Some Name)
kind_by Other text = Some Sign

abbrev kind_of : List ℕ → Option TokenKind
kind_of [] = None
kind_of (c ∷ cs) = kind_by (start_of c) (c ∷ cs)

-- a list with an element that fails the test
one_fails : (p : ℕ → Bool) (before after : List ℕ) (c : ℕ) → p c ≡ false → list_all p (before ++ (c ∷ after)) ≡ false
one_fails p [] after c fails = ap (λ b. b && list_all p after) fails
one_fails p (d ∷ before) after c fails = and_right (p d) _ (one_fails p before after c fails)

literal_fails : (text rest : List ℕ) → IsLiteral text rest → list_all is_ascii_digit text ≡ false
literal_fails text rest is =
    ap (list_all is_ascii_digit) (is.spelled ∙ ap (λ l. is.width ++ l) is.is_value.spelled)
    ∙ one_fails is_ascii_digit is.width (100 ∷ is.is_value.digits) 39 refl

kind_is : (kind : Option TokenKind) (text rest : List ℕ) → IsPiece kind text rest → kind ≡ kind_of text
unfolding kind_by
kind_is kind [] rest is = absurd (no_empty_piece kind rest is)
kind_is None (c ∷ cs) rest (space is) = sym (ap (λ s. kind_by s (c ∷ cs)) (space_piece_start c cs is))
kind_is None (c ∷ cs) rest (comment is) = sym (ap (λ s. kind_by s (c ∷ cs)) (comment_start c cs rest is))
kind_is (Some Name) (c ∷ cs) rest is =
    sym (ap (λ s. kind_by s (c ∷ cs)) (letter_start c is.0.0) ∙ ap (λ b. cond b (Some Keyword) (Some Name)) is.1)
kind_is (Some Keyword) (c ∷ cs) rest is =
    sym (ap (λ s. kind_by s (c ∷ cs)) (letter_start c is.0.0) ∙ ap (λ b. cond b (Some Keyword) (Some Name)) is.1)
kind_is (Some Number) (c ∷ cs) rest is =
    sym (ap (λ s. kind_by s (c ∷ cs)) (digit_start c (run_head is_ascii_digit c cs rest is.0)) ∙ ap (λ b. cond b (Some Number) (Some Literal)) is.0.each)
kind_is (Some Literal) (c ∷ cs) rest is =
    sym (ap (λ s. kind_by s (c ∷ cs)) (literal_start c cs rest is) ∙ ap (λ b. cond b (Some Number) (Some Literal)) (literal_fails (c ∷ cs) rest is))
kind_is (Some Sign) (c ∷ []) rest is = sym (ap (λ s. kind_by s (c ∷ [])) (sign_start c is))
kind_is (Some Sign) (c ∷ d ∷ []) rest is = sym (ap (λ s. kind_by s (c ∷ d ∷ [])) (sign_start c (double_single c d is)))
kind_is (Some Sign) (c ∷ d ∷ e ∷ cs) rest is = cc

-- ---- one way to cut

-- the longest piece that begins a text is determined
longest_same : (p q : Piece) (a b : List ℕ) → IsLongest p a → IsLongest q b → p.text ++ a ≡ q.text ++ b → (p ≡ q) × (a ≡ b)
longest_same p q a b one other e =
    let at_most = other.longest p.kind p.text a e one.is in
    let at_least = one.longest q.kind q.text b (sym e) other.is in
    let same = same_fronts p.text q.text a b e (omega arith) in
    let kinds : p.kind ≡ q.kind = kind_is p.kind p.text a one.is ∙ ap kind_of same.0 ∙ sym (kind_is q.kind q.text b other.is) in
    ((λ i. record { kind = kinds i; text = same.0 i }), same.1)

pub cuts_same : (text : List ℕ) (ps qs : List Piece) (r s : List ℕ) → Cuts text ps r → Cuts text qs s → NoneBegins r → NoneBegins s → (ps ≡ qs) × (r ≡ s)
cuts_same text [] [] r s one other end_r end_s = (refl, sym one ∙ other)
cuts_same text [] (q ∷ qs) r s one other end_r end_s =
    absurd (end_r q.kind q.text other.0 (sym other.1 ∙ one) other.2.is)
cuts_same text (p ∷ ps) [] r s one other end_r end_s =
    absurd (end_s p.kind p.text one.0 (sym one.1 ∙ other) one.2.is)
cuts_same text (p ∷ ps) (q ∷ qs) r s one other end_r end_s =
    let same = longest_same p q one.0 other.0 one.2 other.2 (sym one.1 ∙ other.1) in
    let rest = cuts_same one.0 ps qs r s one.3 (subst (λ t. Cuts t qs s) (sym same.1) other.3) end_r end_s in
    ((λ i. same.0 i ∷ rest.0 i), rest.1)

pub lexes_same : (text : List ℕ) (a b : Result (List Lexeme) ℕ) → Lexes text a → Lexes text b → a ≡ b
lexes_same text (Ok xs) (Ok ys) one other =
    let same = cuts_same text one.0 other.0 [] [] one.1 other.1 (none_begins_empty [] refl) (none_begins_empty [] refl) in
    ap Ok (one.2 ∙ ap (lexemes 0) same.0 ∙ sym other.2)
lexes_same text (Ok xs) (Err o) one other =
    let same = cuts_same text one.0 other.0 [] other.1 one.1 other.2 (none_begins_empty [] refl) other.4 in
    absurd (other.3 (sym same.1))
lexes_same text (Err o) (Ok ys) one other =
    let same = cuts_same text other.0 one.0 [] one.1 other.1 one.2 (none_begins_empty [] refl) one.4 in
    absurd (one.3 (sym same.1))
lexes_same text (Err o) (Err n) one other =
    let same = cuts_same text one.0 other.0 one.1 other.1 one.2 other.2 one.4 other.4 in
    ap Err (one.5 ∙ ap (λ ps. byte_count (flat_map (λ piece. piece.text) ps)) same.0 ∙ sym other.5)
