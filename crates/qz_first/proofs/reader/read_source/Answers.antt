use Rattle.std.proofs.Common.{◌≡◌, ◌≢◌, ℕ, List, Ok, map, IfOk, IfErr, subst, sym, rules}
use Rattle.std.specs.Str.{chars, IsAscii}
use Rattle.std.proofs.lemmas.Result.{err_from_is_err_and}
use Rattle.qz_lexer.specs.declared.tokens.Token.{Token}
use Rattle.qz_lexer.specs.Lexemes.{lexeme, Lexes}
use Rattle.qz_first.specs.declared.source.SourceModule.{SourceModule}
use Rattle.qz_first.specs.Grammar.{FitsModule, module_spelling}
use Rattle.qz_first.specs.Reading.{texts, OnNotBuilt}
use Rattle.qz_first.proofs.SourceLemmas.{not_utf8, no_tokens, is_source, is_no_source}
use Rattle.qz_first.proofs.reader.read_source.Goals as goal

pub returns-in_default-clause-none : goal.returns-in_default-clause-none
returns-in_default-clause-none c = not_utf8 c.args.bytes.now c.in_default.ensures.cases.0

pub returns-in_err-tokens-clause-none : goal.returns-in_err-tokens-clause-none
returns-in_err-tokens-clause-none c =
    let returned = err_from_is_err_and c.from_residual.result c.from_residual.ensures.1 in
    let text : c.in-Ok.text.now ≡ c.args.bytes.now = search rules in
    rw (returned.1, returned.2) (no_tokens c.args.bytes.now c.in_err-tokens.field-0.0
    (λ outcome lexed. c.in_err-tokens.ensures.only outcome (subst (λ (t : List ℕ). Lexes (chars t) outcome) (sym text) lexed)))

pub returns-clause-read : goal.returns-clause-read
returns-clause-read c =
    let text : c.in-Ok.text.now ≡ c.args.bytes.now = search rules in
    is_source c.args.bytes.now c.in_ok-tokens.tokens.items (subst (λ (t : List ℕ). Lexes (chars t) (Ok (map lexeme c.in_ok-tokens.tokens.items))) text c.in_ok-tokens.ensures.found)
    c.requires (subst IsAscii text (search rules)) (search rules) c.whole_module.result
    (subst (λ (tokens : List Token). IfOk c.whole_module.result (λ m. texts tokens ≡ module_spelling m)) c.as_slice.ensures.value c.whole_module.ensures.read)
    c.whole_module.ensures.fits

pub returns-clause-none : goal.returns-clause-none
returns-clause-none c =
    let text : c.in-Ok.text.now ≡ c.args.bytes.now = search rules in
    is_no_source c.args.bytes.now c.in_ok-tokens.tokens.items (subst (λ (t : List ℕ). Lexes (chars t) (Ok (map lexeme c.in_ok-tokens.tokens.items))) text c.in_ok-tokens.ensures.found)
    (λ outcome lexed. c.in_ok-tokens.ensures.only outcome (subst (λ (t : List ℕ). Lexes (chars t) outcome) (sym text) lexed)) c.whole_module.result
    (subst (λ (tokens : List Token). IfErr c.whole_module.result (λ fault. OnNotBuilt fault ((m : SourceModule) → FitsModule m → texts tokens ≢ module_spelling m)))
    c.as_slice.ensures.value c.whole_module.ensures.none)
