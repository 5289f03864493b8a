use Rattle.std.proofs.Common.{◌≡◌, [], ◌∷◌, ◌++◌, None, string_bytes, sym, ap, ◌∙◌, subst, arith}
use Rattle.std.specs.Char.{IsScalar}
use Rattle.std.specs.Str.{chars}
use Rattle.std.proofs.lemmas.Str.{IsUtf8-string_bytes}
use Rattle.qz_vread.specs.Unspelling.{Unspelled}
use Rattle.qz_vread.proofs.Unspelling.{at}
use Rattle.qz_vread.proofs.NamesRead.{character_more, byte_taken, byte_scalar}
use Rattle.qz_vread.proofs.names.Unspelling.take.Goals as goal

pub returns-in_ok-push-in-None-2 : goal.returns-in_ok-push-in-None-2
returns-in_ok-push-in-None-2 c =
    let scalar : IsScalar c.from.result = subst IsScalar (sym c.from.ensures) (byte_scalar c.args.byte (omega (arith, c.ranges.byte.fits))) in
    let more = character_more (string_bytes c.self.inside.text) (string_bytes c.push.new.self) c.from.result (IsUtf8-string_bytes c.self.inside.text) scalar c.in_ok-push-in-None-2.ensures.bytes in
    let old : chars (string_bytes c.self.inside.text) ≡ c.args.self.now.characters = ap (λ (u : Unspelled). u.characters) c.self.view_is in
    let code : c.self.inside.code ≡ c.args.self.now.code = ap (λ (u : Unspelled). u.code) c.self.view_is in
    let none : c.self.inside.code ≡ None = c.in-None-2.is in
    let new : c.args.self.now.characters ++ c.args.byte ∷ [] ≡ chars (string_bytes c.push.new.self) = ap (λ cs. cs ++ c.args.byte ∷ []) (sym old) ∙ ap (λ k. chars (string_bytes c.self.inside.text) ++ k ∷ []) (sym c.from.ensures) ∙ sym more in
    byte_taken c.args.self.now.characters c.args.self.now.code c.args.byte (sym code ∙ none) c.if-byte-eq36-2.false
    ∙ ap (λ cs. at cs None) new
    ∙ ap (λ k. at (chars (string_bytes c.push.new.self)) k) (sym none)
