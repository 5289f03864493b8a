-- What the writes of bits come to.
use Rattle.std.proofs.Common.{◌≡◌, ℕ, Bool, true, false, ◌&&◌, ◌||◌, ◌==◌, List, [], ◌∷◌, refl, ap, ap₂, ◌∙◌, if◌then◌else◌}
use Rattle.qz_values.specs.declared.Ty.TheVariants as ty
use Rattle.qz_values.specs.declared.Know.TheVariants.{Known}
use Rattle.qz_values.specs.Values.{yes, truth_of}
use Rattle.qz_syntax.specs.declared.declarations.Class.TheVariants.{Event}
use Rattle.qz_meaning.specs.Instances.{formal_instance}
use Rattle.qz_meaning.specs.Accounts.{Write}
use Rattle.qz_meaning.specs.Settling.{settled, with_pending}
use Rattle.qz_meaning.specs.Scenes.{default_store}
use Rattle.qz_meaning.specs.Verdicts.{Verdict, Nobody, One, join, verdict_of_one, verdict}
use Rattle.qz_meaning.proofs.JoinLemmas.{verdicts_join}
use Rattle.qz_first.specs.Mirror.{Bits, is_driven}
use Rattle.qz_first.specs.FirstWalk.{write_of, writes_of}
use Rattle.qz_first.specs.FirstResumes.{AreWritesOf}

-- the verdict of writers that drive, or don't
abbrev pub driven_verdict : Bool → Verdict
driven_verdict b = if b then One yes else Nobody

one_writer : (same driven : Bool)
    → (if same && true then join Nobody (verdict_of_one (Known (truth_of driven)) (Known yes)) else Nobody) ≡ driven_verdict (same && driven)
one_writer true true = refl
one_writer true false = refl
one_writer false driven = refl

joined : (a b : Bool) → join (driven_verdict a) (driven_verdict b) ≡ driven_verdict (a || b)
joined true true = refl
joined true false = refl
joined false b = refl

pub verdict-writes_of : (bits : Bits) (n : ℕ) → verdict (formal_instance n) false (writes_of bits) ≡ driven_verdict (is_driven bits n)
verdict-writes_of [] n = refl
verdict-writes_of (bit ∷ bits) n =
    verdicts_join (formal_instance n) false (write_of bit ∷ []) (writes_of bits)
    ∙ ap₂ join (one_writer (bit.0 == n) bit.1) (verdict-writes_of bits n)
    ∙ joined ((bit.0 == n) && bit.1) (is_driven bits n)

pub verdict_later-writes_of : (bits : Bits) (n : ℕ) → verdict (formal_instance n) true (writes_of bits) ≡ Nobody
verdict_later-writes_of [] n = refl
verdict_later-writes_of (bit ∷ bits) n = verdict_later-writes_of bits n

-- the verdicts of writes of bits
pub verdict_driven : (writes : List Write) (bits : Bits) → AreWritesOf writes bits → (n : ℕ)
    → verdict (formal_instance n) false writes ≡ driven_verdict (is_driven bits n)
verdict_driven writes bits h n =
    ap (verdict (formal_instance n) false) h.are ∙ verdict-writes_of h.same n ∙ ap driven_verdict (h.drive n)

pub verdict_undelayed : (writes : List Write) (bits : Bits) → AreWritesOf writes bits → (n : ℕ) → verdict (formal_instance n) true writes ≡ Nobody
verdict_undelayed writes bits h n = ap (verdict (formal_instance n) true) h.are ∙ verdict_later-writes_of h.same n

-- what an event of type bool settles to
pub settled_driven : (b : Bool) → settled Event ty.Bool (default_store ty.Bool) (with_pending (default_store ty.Bool) (driven_verdict b)) ≡ Known (truth_of b)
settled_driven true = refl
settled_driven false = refl
