use Rattle.std.proofs.Common.{◌≡◌, [], ◌∷◌, ◌++◌, None, string_bytes, sym, ap, ◌∙◌, subst}
use Rattle.std.specs.Char.{IsScalar}
use Rattle.std.specs.Str.{chars}
use Rattle.std.proofs.lemmas.Str.{IsUtf8-string_bytes}
use Rattle.qz_vread.specs.Unspelling.{Unspelled}
use Rattle.qz_vread.proofs.Unspelling.{at}
use Rattle.qz_vread.proofs.NamesRead.{character_more, character_taken}
use Rattle.qz_vread.proofs.names.Unspelling.take_character.Goals as goal

pub returns : goal.returns
returns c =
    let code = c.in-Some.ensures.value in
    let scalar : IsScalar c.in-Some.character = subst IsScalar (sym code.1) code.0 in
    let more = character_more (string_bytes c.self.inside.text) (string_bytes c.push.new.self) c.in-Some.character (IsUtf8-string_bytes c.self.inside.text) scalar c.in_ok-push.ensures.bytes in
    let old : chars (string_bytes c.self.inside.text) ≡ c.args.self.now.characters = ap (λ (u : Unspelled). u.characters) c.self.view_is in
    let new : c.args.self.now.characters ++ c.args.code ∷ [] ≡ chars (string_bytes c.push.new.self) = ap (λ cs. cs ++ c.args.code ∷ []) (sym old) ∙ ap (λ k. chars (string_bytes c.self.inside.text) ++ k ∷ []) (sym code.1) ∙ sym more in
    character_taken c.args.self.now.characters c.args.code code.0
    ∙ ap (λ cs. at cs None) new
