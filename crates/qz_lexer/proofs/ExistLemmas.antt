-- Every list of characters has an outcome.
use Rattle.std.proofs.Common.{◌≡◌, ℕ, zero, suc, ◌+◌, ◌≤◌, Bool, List, [], ◌∷◌, ◌++◌, length, Option, Some, None, Result, Ok, Err, ◌⊎◌, inl, inr, refl, ap, arith, length-append}
use Rattle.std.specs.List.{flat_map}
use Rattle.std.specs.Char.{is_ascii_digit}
use Rattle.std.proofs.lemmas.Bool.{cases_eq, cases_lt, cases_Bool}
use Rattle.unicode_ident.specs.Ident.{is_xid_continue}
use Rattle.qz_lexer.specs.declared.starts.Start.{Start}
use Rattle.qz_lexer.specs.declared.starts.Start.TheVariants.{Space, Digit, Slash, Letter, Other}
use Rattle.qz_lexer.specs.declared.tokens.TokenKind.{TokenKind}
use Rattle.qz_lexer.specs.declared.tokens.TokenKind.TheVariants.{Name, Keyword, Number, Literal, Sign}
use Rattle.qz_lexer.specs.Runs.{Takes, Lacks, Skips, is_of_line}
use Rattle.qz_lexer.specs.Blanks.{IsComment, IsBlockComment, line, block}
use Rattle.qz_lexer.specs.Words.{IsValue, is_reserved, is_single_sign, is_double_sign}
use Rattle.qz_lexer.specs.Starts.{start_of}
use Rattle.qz_lexer.specs.Pieces.{IsPiece, Piece, Cuts, BeginsWith, NoneBegins}
use Rattle.qz_lexer.specs.Lexemes.{Lexeme, lexemes, byte_count, Lexes}
use Rattle.qz_lexer.proofs.RunLemmas.{skips_none, skips_more}
use Rattle.qz_lexer.proofs.StartLemmas.{no_empty_piece}
use Rattle.qz_lexer.proofs.CommentLemmas.{no_line, takes_line, no_block_start, no_block_end, takes_block}
use Rattle.qz_lexer.proofs.ValueLemmas.{no_value_start, no_value_count, takes_value}
use Rattle.qz_lexer.proofs.PieceLemmas.{none_begins_empty, begins_space, begins_comment, no_slash_piece, no_long_number, begins_number, begins_literal, no_long_word, begins_name, begins_keyword, IsAlone, begins_single, begins_double, no_sign_piece}

-- a text begins with a whole run, perhaps of no characters
run_exists : (p : ℕ → Bool) (text : List ℕ) → (n : ℕ) × (rest : List ℕ) × Skips p text n rest
run_exists p [] = (0, [], skips_none p [] tt)
run_exists p (c ∷ text) =
    let more = run_exists p text in
    elim (cases_Bool (p c)) [
      | inl passes ↦ (more.0 + 1, more.1, skips_more p c text more.1 more.0 passes more.2)
      | inr fails ↦ (0, c ∷ text, skips_none p (c ∷ text) fails)
    ]

-- two given characters begin a text or not
two_or_not : (a b : ℕ) (text : List ℕ) → ((rest : List ℕ) × (text ≡ a ∷ b ∷ rest)) ⊎ ((rest : List ℕ) → text ≡ a ∷ b ∷ rest → ⊥)
two_or_not a b [] = inr (λ rest e. cc)
two_or_not a b (c ∷ []) = inr (λ rest e. cc)
two_or_not a b (c ∷ d ∷ text) =
    elim (cases_eq c a) [
      | inl first ↦ elim (cases_eq d b) [
        | inl second ↦ inl (text, (λ i. first i ∷ second i ∷ text))
        | inr differs ↦ inr (λ rest e. differs cc)
      ]
      | inr differs ↦ inr (λ rest e. differs cc)
    ]

value_or_not : (text : List ℕ) → ((rest : List ℕ) × Takes IsValue text rest) ⊎ Lacks IsValue text
value_or_not text =
    elim (two_or_not 39 100 text) [
      | inl begins ↦ (
          let run = run_exists is_ascii_digit begins.0 in
          elim (cases_lt run.0 1) [
            | inl none ↦ inr (no_value_count text begins.0 run.1 run.0 begins.1 run.2 (λ some few. omega arith))
            | inr some ↦ elim (cases_lt 20 run.0) [
              | inl many ↦ inr (no_value_count text begins.0 run.1 run.0 begins.1 run.2 (λ some few. omega arith))
              | inr few ↦ inl (run.1, takes_value text begins.0 run.1 run.0 begins.1 run.2 some few)
            ]
          ])
      | inr none ↦ inr (no_value_start text none)
    ]

-- the first */ of a text
record FirstEnd (text : List ℕ) : Type 0 where
  body : List ℕ
  after : List ℕ
  split : text ≡ body ++ (42 ∷ 47 ∷ after)
  next : (before more : List ℕ) → text ≡ before ++ (42 ∷ 47 ∷ more) → length body ≤ length before

abbrev NoEnd : List ℕ → Type 0
NoEnd text = (before after : List ℕ) → text ≡ before ++ (42 ∷ 47 ∷ after) → ⊥

-- a character before a text whose first */ is known, where none begins at the character
end_later : (c : ℕ) (text : List ℕ) → ((rest : List ℕ) → c ∷ text ≡ 42 ∷ 47 ∷ rest → ⊥) → FirstEnd text → FirstEnd (c ∷ text)
end_later c text none found = record {
  body = c ∷ found.body;
  after = found.after;
  split = ap (λ l. c ∷ l) found.split;
  next = later;
}
  where
    later : (before more : List ℕ) → c ∷ text ≡ before ++ (42 ∷ 47 ∷ more) → length (c ∷ found.body) ≤ length before
    later [] more e = absurd (none more e)
    later (d ∷ before) more e =
        let same : text ≡ before ++ (42 ∷ 47 ∷ more) = cc in
        let le = found.next before more same in
        omega arith

no_end_later : (c : ℕ) (text : List ℕ) → ((rest : List ℕ) → c ∷ text ≡ 42 ∷ 47 ∷ rest → ⊥) → NoEnd text → NoEnd (c ∷ text)
no_end_later c text none no_end [] after e = none after e
no_end_later c text none no_end (d ∷ before) after e = (let same : text ≡ before ++ (42 ∷ 47 ∷ after) = cc in no_end before after same)

nil_no_end : NoEnd []
nil_no_end [] after e = cc
nil_no_end (d ∷ before) after e = cc

end_or_not : (text : List ℕ) → FirstEnd text ⊎ NoEnd text
end_or_not [] = inr nil_no_end
end_or_not (c ∷ text) =
    let more = end_or_not text in
    elim (two_or_not 42 47 (c ∷ text)) [
      | inl here ↦ inl (record { body = []; after = here.0; split = here.1; next = λ before more e. omega arith })
      | inr none ↦ elim more [
        | inl found ↦ inl (end_later c text none found)
        | inr no_end ↦ inr (no_end_later c text none no_end)
      ]
    ]

lacks_comment : (text : List ℕ) → ((rest : List ℕ) → text ≡ 47 ∷ 47 ∷ rest → ⊥) → Lacks IsBlockComment text → Lacks IsComment text
lacks_comment text no_line_start no_block front rest e (line is) = no_line text no_line_start front rest e is
lacks_comment text no_line_start no_block front rest e (block is) = no_block front rest e is

comment_or_not : (text : List ℕ) → ((rest : List ℕ) × Takes IsComment text rest) ⊎ Lacks IsComment text
comment_or_not text =
    elim (two_or_not 47 47 text) [
      | inl begins ↦ (
          let run = run_exists is_of_line begins.0 in
          let found = takes_line text begins.0 run.1 run.0 begins.1 run.2 in
          inl (run.1, record { front = found.front; split = found.split; is = line found.is }))
      | inr no_line_start ↦ elim (two_or_not 47 42 text) [
        | inl begins ↦ elim (end_or_not begins.0) [
          | inl end ↦ (
              let found = takes_block text begins.0 end.body end.after begins.1 end.split end.next in
              inl (end.after, record { front = found.front; split = found.split; is = block found.is }))
          | inr no_end ↦ inr (lacks_comment text no_line_start (no_block_end text begins.0 begins.1 no_end))
        ]
        | inr no_start ↦ inr (lacks_comment text no_line_start (no_block_start text no_start))
      ]
    ]

-- ---- a piece begins a text or not

abbrev Begun : List ℕ → Type 0
Begun text = ((kind : Option TokenKind) × (rest : List ℕ) × BeginsWith text kind rest) ⊎ NoneBegins text

slash_or_not : (c : ℕ) (cs : List ℕ) → start_of c ≡ Slash → Begun (c ∷ cs)
slash_or_not c cs starts =
    elim (comment_or_not (c ∷ cs)) [
      | inl found ↦ inl (None, found.0, begins_comment (c ∷ cs) found.0 starts found.1)
      | inr none ↦ inr (no_slash_piece (c ∷ cs) starts none)
    ]

number_or_not : (c : ℕ) (cs : List ℕ) → start_of c ≡ Digit → Begun (c ∷ cs)
number_or_not c cs starts =
    let found = run_exists is_ascii_digit (c ∷ cs) in
    let run = found.2 in
    elim (cases_lt 20 found.0) [
      | inl long ↦ inr (no_long_number (c ∷ cs) run.run found.1 starts run.split run.whole (omega (arith, run.count)))
      | inr short ↦ elim (value_or_not found.1) [
        | inl value ↦ inl (Some Literal, value.0, begins_literal (c ∷ cs) run.run found.1 starts run.split run.whole value.0 (omega (arith, run.count)) value.1)
        | inr none ↦ inl (Some Number, found.1, begins_number (c ∷ cs) run.run found.1 starts run.split run.whole (omega (arith, run.count)) none)
      ]
    ]

word_or_not : (c : ℕ) (cs : List ℕ) → start_of c ≡ Letter → Begun (c ∷ cs)
word_or_not c cs starts =
    let found = run_exists is_xid_continue (c ∷ cs) in
    let run = found.2 in
    elim (cases_lt 64 found.0) [
      | inl long ↦ inr (no_long_word (c ∷ cs) run.run found.1 starts run.split run.whole (omega (arith, run.count)))
      | inr short ↦ elim (cases_Bool (is_reserved run.run)) [
        | inl reserved ↦ inl (Some Keyword, found.1, begins_keyword (c ∷ cs) run.run found.1 starts run.split run.whole (omega (arith, run.count)) reserved)
        | inr free ↦ inl (Some Name, found.1, begins_name (c ∷ cs) run.run found.1 starts run.split run.whole (omega (arith, run.count)) free)
      ]
    ]

single_or_not : (c : ℕ) (cs : List ℕ) → start_of c ≡ Other → IsAlone c cs → Begun (c ∷ cs)
single_or_not c cs starts alone =
    elim (cases_Bool (is_single_sign c)) [
      | inl single ↦ inl (Some Sign, cs, begins_single (c ∷ cs) starts c cs refl single alone)
      | inr none ↦ inr (no_sign_piece (c ∷ cs) starts c cs refl none)
    ]

sign_or_not : (c : ℕ) (cs : List ℕ) → start_of c ≡ Other → Begun (c ∷ cs)
sign_or_not c [] starts = single_or_not c [] starts tt
sign_or_not c (d ∷ cs) starts =
    elim (cases_Bool (is_double_sign c d)) [
      | inl double ↦ inl (Some Sign, cs, begins_double (c ∷ d ∷ cs) starts c d cs refl double)
      | inr alone ↦ single_or_not c (d ∷ cs) starts alone
    ]

begun_by : (start : Start) (c : ℕ) (cs : List ℕ) → start_of c ≡ start → Begun (c ∷ cs)
begun_by Space c cs starts = inl (None, cs, begins_space (c ∷ cs) cs c starts refl)
begun_by Digit c cs starts = number_or_not c cs starts
begun_by Slash c cs starts = slash_or_not c cs starts
begun_by Letter c cs starts = word_or_not c cs starts
begun_by Other c cs starts = sign_or_not c cs starts

begun : (text : List ℕ) → Begun text
begun [] = inr (none_begins_empty [] refl)
begun (c ∷ cs) = begun_by (start_of c) c cs refl

-- ---- all of a text

some_characters : (kind : Option TokenKind) (piece rest : List ℕ) → IsPiece kind piece rest → 1 ≤ length piece
some_characters kind [] rest is = absurd (no_empty_piece kind rest is)
some_characters kind (c ∷ piece) rest is = omega arith

abbrev CutUp : List ℕ → Type 0
CutUp text = (pieces : List Piece) × (rest : List ℕ) × Cuts text pieces rest × NoneBegins rest

cut_up : (most : ℕ) (text : List ℕ) → length text ≤ most → CutUp text
cut_up zero [] short = ([], [], refl, none_begins_empty [] refl)
cut_up zero (c ∷ cs) short = absurd (omega arith)
cut_up (suc most) text short =
    elim (begun text) [
      | inl found ↦ (
          let begins = found.2 in
          let shorter : length found.1 ≤ most = omega (arith, ap length begins.split, length-append begins.front found.1, some_characters found.0 begins.front found.1 begins.is.is) in
          let more = cut_up most found.1 shorter in
          (record { kind = found.0; text = begins.front } ∷ more.0, more.1, (found.1, begins.split, begins.is, more.2), more.3))
      | inr none ↦ ([], text, refl, none)
    ]

outcome_by : (text : List ℕ) (pieces : List Piece) (rest : List ℕ) → Cuts text pieces rest → NoneBegins rest → (outcome : Result (List Lexeme) ℕ) × Lexes text outcome
outcome_by text pieces [] cuts none = (Ok (lexemes 0 pieces), (pieces, cuts, refl))
outcome_by text pieces (c ∷ rest) cuts none =
    (Err (byte_count (flat_map (λ piece. piece.text) pieces)), (pieces, c ∷ rest, cuts, (λ e. cc), none, refl))

pub outcome_exists : (text : List ℕ) → (outcome : Result (List Lexeme) ℕ) × Lexes text outcome
outcome_exists text = (let up = cut_up (length text) text (omega arith) in outcome_by text up.0 up.1 up.2 up.3)
