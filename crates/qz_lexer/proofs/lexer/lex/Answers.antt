use Rattle.std.proofs.Common.{◌≢◌, [], ◌++◌, map, length, Ok, Err, IsUtf8, sym, ap, ◌∙◌, rules}
use Rattle.std.specs.Str.{chars}
use Rattle.std.proofs.lemmas.Bool.{eqb-true, eqb-false}
use Rattle.qz_lexer.specs.Lexemes.{lexeme, lexeme_at, Lexes}
use Rattle.qz_lexer.proofs.TextLemmas.{chars_empty, chars_some}
use Rattle.qz_lexer.proofs.SliceLemmas.{tokens_are_slices}
use Rattle.qz_lexer.proofs.CutLemmas.{lexes_same}
use Rattle.qz_lexer.proofs.LexLemmas.{texts, split_so_far, cut_more, cut_all, cut_stuck, piece_shortens}
use Rattle.qz_lexer.proofs.lexer.lex.Goals as goal
use Rattle.qz_lexer.proofs.lexer.lex.Goals.{After-drop-tokens, After-loop-rest}

pub text_before-requires : goal.text_before-requires
text_before-requires c = (let so_far = c.loop-rest.invariant.so_far in (texts so_far.pieces, split_so_far so_far))

-- where no piece begins, the outcome is this offset
fault : (c : After-drop-tokens) → Lexes (chars c.args.text.now) (Err (length c.text_before.result.now))
fault c =
    let so_far = c.loop-rest.invariant.so_far in
    let more : chars c.loop-rest.rest.now ≢ [] = chars_some _ c.loop-rest.invariant.utf8 (eqb-false _ _ (sym c.loop-rest-test.ensures)) in
    cut_stuck _ _ _ so_far more c.in_default.ensures _ (ap length (c.text_before.ensures.bytes _ (split_so_far so_far)))

pub returns-in_default-clause-found : goal.returns-in_default-clause-found
returns-in_default-clause-found c = fault c

pub returns-in_default-clause-only : goal.returns-in_default-clause-only
returns-in_default-clause-only c outcome other = lexes_same _ _ _ (fault c) other

pub loop-rest-smaller : goal.loop-rest-smaller
loop-rest-smaller c =
    let after : IsUtf8 c.in-Some.front.after.now = search rules in
    piece_shortens _ _ _ c.loop-rest.invariant.utf8 after c.in-Some.ensures

pub loop-rest-preserved : goal.loop-rest-preserved
loop-rest-preserved c =
    let so_far = c.loop-rest.invariant.so_far in
    let begins = c.in-Some.ensures in
    let bytes = c.text_before-piece.ensures.bytes begins.front begins.split in
    let offset = ap length (c.text_before.ensures.bytes _ (split_so_far so_far)) in
    record {
      utf8 = search rules;
      so_far = cut_more _ _ _ _ _ c.in-Some.front.kind so_far begins
          (c.in_ok-keep.ensures.ok ∙ (λ i. map lexeme c.loop-rest.tokens.items ++ lexeme_at (offset i) c.in-Some.front.kind (bytes i)));
    }

-- where nothing is left, the outcome is these tokens
tokens : (c : After-loop-rest) → Lexes (chars c.args.text.now) (Ok (map lexeme c.loop-rest.tokens.items))
tokens c = cut_all _ _ _ c.loop-rest.invariant.so_far (chars_empty _ (eqb-true _ _ (sym c.loop-rest-test.ensures)))

pub returns-clause-found : goal.returns-clause-found
returns-clause-found c = tokens c

pub returns-clause-only : goal.returns-clause-only
returns-clause-only c outcome other = lexes_same _ _ _ (tokens c) other

pub returns-clause-slices : goal.returns-clause-slices
returns-clause-slices c = tokens_are_slices c.args.text.now _ c.utf8.text (tokens c)
