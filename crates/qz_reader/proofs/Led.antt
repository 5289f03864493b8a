-- A word that may be missing, and what comes after it.
use Rattle.std.proofs.Common.{◌≡◌, ℕ, ◌≤◌, inl, inr, List, [], ◌∷◌, ◌++◌, max, sym, refl, ap, ◌∙◌, append_assoc, append-nil, arith}
use Rattle.qz_phrases.specs.declared.words.Spot.{Spot}
use Rattle.qz_phrases.specs.declared.cursor.Cursor.{Cursor}
use Rattle.qz_phrases.specs.declared.cursor.Fault.{Fault}
use Rattle.qz_phrases.specs.Phrases.{Kind, token}
use Rattle.qz_phrases.specs.Reading.{Begins, Fails}
use Rattle.qz_phrases.proofs.Combining.{Fill, always, then}

-- a word that may be missing is begun by itself alone
led_begun : {A B : Type 0} (make : A → Spot) (L : Kind B) (low high top : ℕ) (front : List Spot) → Begins (always (token make)) low front → Fill L high → low ≤ top → high ≤ top → Begins (then (always (token make)) L) top front
led_begun make L low high top front b fill k_low l_low = record {
  more = b.more ++ fill.more;
  phrase = (b.phrase, fill.phrase);
  stands = λ levels enough words h. (
    fill.more ++ words,
    ap (λ ws. front ++ ws) (append_assoc b.more fill.more words) ∙ sym (append_assoc front b.more (fill.more ++ words)) ∙ ap (λ ws. ws ++ (fill.more ++ words)) alone,
    fill.stands levels (omega (arith, enough, l_low)) words h,
  );
}
  where
    alone : front ++ b.more ≡ make b.phrase ∷ []
    alone = ap (λ ws. front ++ ws) (sym (append-nil b.more)) ∙ b.stands low (omega arith) [] refl

-- whatever comes after a word that is missing
pub led_first : {A B : Type 0} (make : A → Spot) {L : Kind B} {room : ℕ} {s0 s1 : Cursor} {why : Fault} → Fill L room → Fails (always (token make)) room s0 s1 why → Fails (then (always (token make)) L) room s0 s1 why
led_first make {L} {room} fill k = record {
  moves = k.moves;
  front = k.front;
  read = k.read;
  none = λ others agrees levels rules p rest h. k.none others agrees levels rules p.0 h.0 h.1;
  begins = elim k.begins [ inl b ↦ inl (led_begun make L room room room k.front b fill (omega arith) (omega arith)) | inr e ↦ inr e ];
  deeper = λ e. let d = k.deeper e in (d.0, d.1, d.2, max d.3 room, led_begun make L d.3 room (max d.3 room) (k.front ++ d.0 ∷ []) d.4 fill (omega arith) (omega arith));
}
