use Rattle.std.proofs.Common.{List, All, map, sym, ap, ◌∙◌, subst}
use Rattle.qz_lexer.specs.declared.tokens.Token.{Token}
use Rattle.qz_lexer.specs.Lexemes.{lexeme}
use Rattle.qz_source.specs.Spots.{IsTokenText, spot_of}
use Rattle.qz_source.proofs.TokenTexts.{each_token}
use Rattle.qz_source.proofs.Wholes.{only_words}
use Rattle.qz_source.proofs.source.words_of.Goals as goal

pub spots-requires : goal.spots-requires
spots-requires c =
    subst (λ (tokens : List Token). All (λ token. IsTokenText (lexeme token)) tokens) (sym c.as_slice.ensures.value)
    (each_token c.args.bytes.now c.in-Ok.text.now c.in_ok-tokens-in-Ok.tokens.items c.in-Ok.ensures.cases.0 c.in-Ok.ensures.cases.1 c.in_ok-tokens-in-Ok.ensures.found)

pub returns-in_ok-spots-in-Ok-clause-only : goal.returns-in_ok-spots-in-Ok-clause-only
returns-in_ok-spots-in-Ok-clause-only c =
    only_words c.args.bytes.now c.in-Ok.text.now (map lexeme c.in_ok-tokens-in-Ok.tokens.items) c.in_ok-spots-in-Ok.field-0.items
    c.in-Ok.ensures.cases.0 c.in_ok-tokens-in-Ok.ensures.only
    (c.in_ok-spots-in-Ok.ensures ∙ ap (λ (tokens : List Token). map spot_of (map lexeme tokens)) c.as_slice.ensures.value)
