-- Bytes have one list of words, and one fault.
use Rattle.std.proofs.Common.{◌≡◌, ◌≢◌, ℕ, ◌+◌, ◌<◌, inl, inr, List, ◌++◌, take, drop, length, map, Ok, Err, IsUtf8, sym, refl, ap, subst, ◌∙◌, arith, length-append}
use Rattle.std.specs.Str.{chars, IsValidUpTo}
use Rattle.std.proofs.lemmas.Bool.{cases_lt}
use Rattle.std.proofs.lemmas.List.{take_all, take-append-le, length-drop}
use Rattle.std.proofs.lemmas.Str.{utf8_valid_len-IsValidUpTo}
use Rattle.qz_lexer.specs.Lexemes.{Lexeme, Lexes, HasOneOutcome}
use Rattle.qz_phrases.specs.declared.words.Spot.{Spot}
use Rattle.qz_syntax.specs.declared.files.File.{File}
use Rattle.qz_reader.specs.Texts.{IsFile, most, BeginsFile, IsParse, IsDeep}
use Rattle.qz_source.specs.declared.faults.SourceFault.{SourceFault}
use Rattle.qz_source.specs.declared.faults.SourceFault.TheVariants as fault
use Rattle.qz_source.specs.Spots.{spot_of}
use Rattle.qz_source.specs.Sources.{HasWords, IsSource, offset_at, IsParseAt, IsDeepAt, IsWordsFault, IsSourceFault, HasFault}
use Rattle.qz_source.specs.OneAnswer.{HasOneAnswer}
use Rattle.qz_source.proofs.Wholes.{offset_past}

same_tokens : (text : List ℕ) (o : HasOneOutcome text) (s t : List Lexeme) → Lexes text (Ok s) → Lexes text (Ok t) → s ≡ t
same_tokens text o s t a b =
    let first : Ok s ≡ o.outcome = o.only (Ok s) a in
    let second : Ok t ≡ o.outcome = o.only (Ok t) b in
    cc

same_stuck : (text : List ℕ) (o : HasOneOutcome text) (m n : ℕ) → Lexes text (Err m) → Lexes text (Err n) → m ≡ n
same_stuck text o m n a b =
    let first : Err m ≡ o.outcome = o.only (Err m) a in
    let second : Err n ≡ o.outcome = o.only (Err n) b in
    cc

not_both : (text : List ℕ) (o : HasOneOutcome text) (s : List Lexeme) (n : ℕ) → Lexes text (Ok s) → Lexes text (Err n) → ⊥
not_both text o s n a b =
    let first : Ok s ≡ o.outcome = o.only (Ok s) a in
    let second : Err n ≡ o.outcome = o.only (Err n) b in
    cc

no_utf8 : (bytes : List ℕ) (n : ℕ) → IsValidUpTo bytes n → IsUtf8 bytes → ⊥
no_utf8 bytes n is utf8 = is.longest (length bytes) is.short (subst IsUtf8 (sym (take_all (length bytes) bytes (omega arith))) utf8)

pub same_words : (bytes : List ℕ) → HasOneOutcome (chars bytes) → (u v : List Spot) → HasWords bytes u → HasWords bytes v → u ≡ v
same_words bytes o u v a b = a.said ∙ ap (λ ts. map spot_of ts) (same_tokens (chars bytes) o a.tokens b.tokens a.lexed b.lexed) ∙ sym b.said

-- the words before a place reach past an earlier one
covers : (words front : List Spot) (n m : ℕ) → words ≡ front ++ drop m words → n < m → n < length words → n < length front
covers words front n m before less there =
    let whole = ap (λ (ws : List Spot). length ws) before ∙ length-append front (drop m words) in
    let rest = length-drop m words in
    omega (arith, whole, rest, less, there)

same_front : (words front rest more : List Spot) (n : ℕ) → words ≡ front ++ rest → n < length front → take (n + 1) (front ++ more) ≡ take (n + 1) words
same_front words front rest more n before less =
    take-append-le (n + 1) front more (omega (arith, less)) ∙ sym (take-append-le (n + 1) front rest (omega (arith, less))) ∙ ap (λ ws. take (n + 1) ws) (sym before)

-- where a file begins with the words before a place, one begins with the words up to an earlier place and with it
no_later : (words : List Spot) (n m levels : ℕ) → n < m → n < length words → BeginsFile levels words m
    → ((others : List Spot) → take (n + 1) others ≡ take (n + 1) words → (f : File) → IsFile levels others f → ⊥) → ⊥
no_later words n m levels less there b none =
    none (b.front ++ b.more) (same_front words b.front (drop m words) b.more n b.before (covers words b.front n m b.before less there)) b.file b.is

-- of two places, neither of which comes before the other as a word, the offset is one
same_place : (end : ℕ) (words : List Spot) (n m : ℕ) → (n < m → n < length words → ⊥) → (m < n → m < length words → ⊥) → offset_at end words n ≡ offset_at end words m
same_place end words n m not_less not_more = elim (cases_lt n (length words)) [
  | inl there ↦ elim (cases_lt n m) [
    | inl less ↦ absurd (not_less less there)
    | inr other ↦ elim (cases_lt m n) [
      | inl more ↦ absurd (not_more more (omega (arith, more, there)))
      | inr same ↦ let equal : n ≡ m = omega (arith, other, same) in ap (λ k. offset_at end words k) equal
    ]
  ]
  | inr far ↦ elim (cases_lt m (length words)) [
    | inl there ↦ absurd (not_more (omega (arith, there, far)) there)
    | inr beyond ↦ offset_past end words n far ∙ sym (offset_past end words m beyond)
  ]
]

parse_before : (words : List Spot) (n m : ℕ) → IsParse words n → BeginsFile most words m → n < m → n < length words → ⊥
parse_before words n m p b less there = no_later words n m most less there b (λ others same f is. p.none others same most f is)

deep_before : (words : List Spot) (n m : ℕ) → IsDeep words n → BeginsFile most words m → n < m → n < length words → ⊥
deep_before words n m d b less there = no_later words n m most less there b (λ others same f is. d.none others same most (omega arith) f is)

same_parse : (words : List Spot) (end a b : ℕ) → IsParseAt words end a → IsParseAt words end b → a ≡ b
same_parse words end a b p q =
    p.place ∙ same_place end words p.number q.number (parse_before words p.number q.number p.wrong q.wrong.begins) (parse_before words q.number p.number q.wrong p.wrong.begins) ∙ sym q.place

same_deep : (words : List Spot) (end a b : ℕ) → IsDeepAt words end a → IsDeepAt words end b → a ≡ b
same_deep words end a b p q =
    p.place ∙ same_place end words p.number q.number (deep_before words p.number q.number p.wrong q.wrong.begins) (deep_before words q.number p.number q.wrong p.wrong.begins) ∙ sym q.place

not_parse_and_deep : (words : List Spot) (n m : ℕ) → IsParse words n → IsDeep words m → ⊥
not_parse_and_deep words n m p d = elim (cases_lt m n) [
  | inl less ↦ deep_before words m n d p.begins less d.there
  | inr other ↦ no_later words n (m + 1) d.deeper.0 (omega (arith, other)) (let there = d.there in omega (arith, there, other)) d.deeper.1
      (λ others same f is. p.none others same d.deeper.0 f is)
]

source_is_right : (words : List Spot) (end : ℕ) (f : File) (why : SourceFault) → IsFile most words f → IsWordsFault words end why → why ≡ fault.Memory
source_is_right words end f (fault.NotUtf8 offset) is wrong = absurd wrong
source_is_right words end f (fault.Lex offset) is wrong = absurd wrong
source_is_right words end f (fault.Parse offset) is wrong = absurd (wrong.wrong.none words refl most f is)
source_is_right words end f (fault.Deep offset) is wrong = absurd (wrong.wrong.none words refl most (omega arith) f is)
source_is_right words end f fault.Memory is wrong = refl

along : (bytes : List ℕ) (o : HasOneOutcome (chars bytes)) (words : List Spot) (why : SourceFault) → HasWords bytes words → (h : HasFault bytes why) → IsWordsFault words (length bytes) why
along bytes o words why has h = subst (λ ws. IsWordsFault ws (length bytes) why) (same_words bytes o h.words words h.has has) h.wrong

no_fault : (bytes : List ℕ) → HasOneOutcome (chars bytes) → (f : File) → IsSource bytes f → (why : SourceFault) → IsSourceFault bytes why → why ≡ fault.Memory
no_fault bytes o f is (fault.NotUtf8 offset) wrong = absurd (no_utf8 bytes offset wrong is.has.utf8)
no_fault bytes o f is (fault.Lex offset) wrong = absurd (not_both (chars bytes) o is.has.tokens offset is.has.lexed wrong.stuck)
no_fault bytes o f is (fault.Parse offset) wrong = source_is_right is.words (length bytes) f (fault.Parse offset) is.spelled (along bytes o is.words (fault.Parse offset) is.has wrong)
no_fault bytes o f is (fault.Deep offset) wrong = source_is_right is.words (length bytes) f (fault.Deep offset) is.spelled (along bytes o is.words (fault.Deep offset) is.has wrong)
no_fault bytes o f is fault.Memory wrong = refl

one_fault : (bytes : List ℕ) → HasOneOutcome (chars bytes) → (a b : SourceFault) → IsSourceFault bytes a → IsSourceFault bytes b → a ≢ fault.Memory → b ≢ fault.Memory → a ≡ b
one_fault bytes o fault.Memory b p q not_a not_b = absurd (not_a refl)
one_fault bytes o a fault.Memory p q not_a not_b = absurd (not_b refl)
one_fault bytes o (fault.NotUtf8 m) (fault.NotUtf8 n) p q not_a not_b = ap fault.NotUtf8 (sym (utf8_valid_len-IsValidUpTo bytes m p) ∙ utf8_valid_len-IsValidUpTo bytes n q)
one_fault bytes o (fault.NotUtf8 m) (fault.Lex n) p q not_a not_b = absurd (no_utf8 bytes m p q.utf8)
one_fault bytes o (fault.NotUtf8 m) (fault.Parse n) p q not_a not_b = absurd (no_utf8 bytes m p q.has.utf8)
one_fault bytes o (fault.NotUtf8 m) (fault.Deep n) p q not_a not_b = absurd (no_utf8 bytes m p q.has.utf8)
one_fault bytes o (fault.Lex m) (fault.NotUtf8 n) p q not_a not_b = absurd (no_utf8 bytes n q p.utf8)
one_fault bytes o (fault.Lex m) (fault.Lex n) p q not_a not_b = ap fault.Lex (same_stuck (chars bytes) o m n p.stuck q.stuck)
one_fault bytes o (fault.Lex m) (fault.Parse n) p q not_a not_b = absurd (not_both (chars bytes) o q.has.tokens m q.has.lexed p.stuck)
one_fault bytes o (fault.Lex m) (fault.Deep n) p q not_a not_b = absurd (not_both (chars bytes) o q.has.tokens m q.has.lexed p.stuck)
one_fault bytes o (fault.Parse m) (fault.NotUtf8 n) p q not_a not_b = absurd (no_utf8 bytes n q p.has.utf8)
one_fault bytes o (fault.Parse m) (fault.Lex n) p q not_a not_b = absurd (not_both (chars bytes) o p.has.tokens n p.has.lexed q.stuck)
one_fault bytes o (fault.Parse m) (fault.Parse n) p q not_a not_b = ap fault.Parse (same_parse p.words (length bytes) m n p.wrong (along bytes o p.words (fault.Parse n) p.has q))
one_fault bytes o (fault.Parse m) (fault.Deep n) p q not_a not_b =
    let deep : IsDeepAt p.words (length bytes) n = along bytes o p.words (fault.Deep n) p.has q in
    let parse : IsParseAt p.words (length bytes) m = p.wrong in
    absurd (not_parse_and_deep p.words parse.number deep.number parse.wrong deep.wrong)
one_fault bytes o (fault.Deep m) (fault.NotUtf8 n) p q not_a not_b = absurd (no_utf8 bytes n q p.has.utf8)
one_fault bytes o (fault.Deep m) (fault.Lex n) p q not_a not_b = absurd (not_both (chars bytes) o p.has.tokens n p.has.lexed q.stuck)
one_fault bytes o (fault.Deep m) (fault.Parse n) p q not_a not_b =
    let parse : IsParseAt p.words (length bytes) n = along bytes o p.words (fault.Parse n) p.has q in
    let deep : IsDeepAt p.words (length bytes) m = p.wrong in
    absurd (not_parse_and_deep p.words parse.number deep.number parse.wrong deep.wrong)
one_fault bytes o (fault.Deep m) (fault.Deep n) p q not_a not_b = ap fault.Deep (same_deep p.words (length bytes) m n p.wrong (along bytes o p.words (fault.Deep n) p.has q))

pub one_answer : (bytes : List ℕ) → HasOneOutcome (chars bytes) → HasOneAnswer bytes
one_answer bytes o = record { no_fault = no_fault bytes o; one_fault = one_fault bytes o }
