-- What is read of bytes that may spell a name.
use Rattle.std.proofs.Common.{arith, ◌≡◌, ℕ, suc, ◌<◌, Bool, true, false, ◌==◌, List, [], ◌∷◌, ◌++◌, length, drop, get_or, Option, Some, None, refl, sym, ap, ◌∙◌, drop-cons, append-nil}
use Rattle.std.specs.Char.{IsScalar, encode_utf8}
use Rattle.std.specs.Str.{chars, IsUtf8, all_scalars}
use Rattle.std.proofs.lemmas.Bool.{and_from, ne_eqb, both_ways, cond-true, cond-false}
use Rattle.std.proofs.lemmas.Str.{chars-append, chars_past_char, chars-nil, IsUtf8-encode}
use Rattle.std.proofs.Math.Utf8.{scalar, low_scalar}
use Rattle.qz_syntax.specs.Spelling.{is_name, IsName}
use Rattle.qz_vtext.specs.Names.{name_text}
use Rattle.qz_vread.specs.Naming.{IsNamed}
use Rattle.qz_vread.specs.Reading.{Reads}
use Rattle.qz_vread.specs.Unspelling.{Unspelled, with_byte, with_bytes, with_character, whole, unspelled, IsTaken}
use Rattle.qz_vread.proofs.Unspelling.{spelled_is_read}

pub byte_scalar : (byte : ℕ) → byte < 256 → IsScalar byte
byte_scalar byte small = low_scalar byte (omega arith)

-- a text with one character more
pub character_more : (text more : List ℕ) (c : ℕ) → IsUtf8 text → IsScalar c → more ≡ text ++ encode_utf8 c → chars more ≡ chars text ++ c ∷ []
character_more text more c are is e =
    ap chars e ∙ chars-append text (encode_utf8 c) are
    ∙ ap (λ cs. chars text ++ cs) (chars_past_char (encode_utf8 c) [] c (IsUtf8-encode c is) (sym (append-nil (encode_utf8 c))) ∙ ap (λ cs. c ∷ cs) chars-nil)

pub character_taken : (characters : List ℕ) (code : ℕ) → IsScalar code → with_character characters code ≡ Some (record { characters = characters ++ code ∷ []; code = None })
character_taken characters code is = cond-true (all_scalars (code ∷ [])) _ None (and_from (scalar code) true is refl)

pub byte_taken : (characters : List ℕ) (code : Option ℕ) (byte : ℕ) → code ≡ None → (byte ≡ 36 → ⊥) → with_byte characters code byte ≡ Some (record { characters = characters ++ byte ∷ []; code = None })
byte_taken characters (Some code) byte e other = absurd cc
byte_taken characters None byte e other = cond-false (byte == 36) _ _ (ne_eqb byte 36 other)

pub not_taken : (wanted : Option Unspelled) (new : Unspelled) (taken : Bool) → taken ≡ false → IsTaken wanted new taken → wanted ≡ None
not_taken wanted new true e is = absurd cc
not_taken wanted new false e is = is

nothing_more : (bytes : List ℕ) → with_bytes bytes None ≡ None
nothing_more [] = refl
nothing_more (b ∷ bytes) = refl

-- where one byte isn't taken, the bytes stand for nothing
pub not_unspelled : (bytes : List ℕ) (at byte : ℕ) (u : Unspelled) → at < length bytes → get_or bytes at 0 ≡ byte
    → with_bytes (drop at bytes) (Some u) ≡ with_bytes bytes (Some (record { characters = []; code = None })) → with_byte u.characters u.code byte ≡ None → unspelled bytes ≡ None
not_unspelled bytes at byte u below is so_far none =
    ap whole
    (sym so_far
    ∙ ap (λ bs. with_bytes bs (Some u)) (drop-cons bytes at 0 below ∙ ap (λ b. b ∷ drop (suc at) bytes) is)
    ∙ ap (λ o. with_bytes (drop (suc at) bytes) o) none
    ∙ nothing_more (drop (suc at) bytes))

pub no_name : (bytes : List ℕ) → unspelled bytes ≡ None → Reads IsNamed name_text bytes None
no_name bytes none = record {
  sound = λ name e. absurd cc;
  complete = λ name named e. absurd (let x : None ≡ Some name = sym none ∙ ap unspelled e ∙ spelled_is_read name named.text in cc);
}

-- what the bytes stand for is no name
pub unnamed : (bytes characters : List ℕ) → unspelled bytes ≡ Some characters → is_name characters ≡ false → Reads IsNamed name_text bytes None
unnamed bytes characters some other = record {
  sound = λ name e. absurd cc;
  complete = λ name named e.
      absurd (let x : Some characters ≡ Some name = sym some ∙ ap unspelled e ∙ spelled_is_read name named.text in
      let same : characters ≡ name = cc in
      both_ways (is_name characters) other (ap is_name same ∙ named.name));
}

-- what the bytes stand for is a name, which they may spell or not
pub named_read : (bytes characters name : List ℕ) → unspelled bytes ≡ Some characters → all_scalars characters ≡ true → name ≡ characters → IsName name → bytes ≡ name_text name
    → Reads IsNamed name_text bytes (Some name)
named_read bytes characters name some text same is spelled = record {
  sound = λ other e. let x : name ≡ other = cc in (
    record { text = ap all_scalars (sym x ∙ same) ∙ text; name = ap is_name (sym x) ∙ is },
    spelled ∙ ap name_text x,
  );
  complete = λ other named e. let x : Some characters ≡ Some other = sym some ∙ ap unspelled e ∙ spelled_is_read other named.text in
      let y : characters ≡ other = cc in ap (λ n. Some n) (same ∙ y);
}

pub misspelled : (bytes characters name : List ℕ) → unspelled bytes ≡ Some characters → name ≡ characters → (bytes ≡ name_text name → ⊥) → Reads IsNamed name_text bytes None
misspelled bytes characters name some same other = record {
  sound = λ n e. absurd cc;
  complete = λ n named e.
      absurd (let x : Some characters ≡ Some n = sym some ∙ ap unspelled e ∙ spelled_is_read n named.text in
      let y : characters ≡ n = cc in
      other (e ∙ ap name_text (sym (same ∙ y))));
}
