-- What resuming a statement of the first language gives, by the statement's bits.
use Rattle.std.specs.Prelude.{ℕ, ◌≡◌, Bool, true, false, List, []}
use Rattle.qz_values.specs.declared.Know.TheVariants.{Known}
use Rattle.qz_values.specs.Values.{truth_of}
use Rattle.qz_syntax.specs.declared.places.Residual.{Residual}
use Rattle.qz_syntax.specs.Numbers.{contains}
use Rattle.qz_meaning.specs.Scenes.{Context}
use Rattle.qz_meaning.specs.Accounts.{Write}
use Rattle.qz_meaning.specs.Layouts.{Layout}
use Rattle.qz_meaning.specs.Residing.{Walk}
use Rattle.qz_first.specs.Mirror.{Bits, Control, Mirror, is_driven}
use Rattle.qz_first.specs.FirstWalk.{writes_of, places_at}

-- among these places control is where it rests
abbrev pub IsControl : Control → List ℕ → List ℕ → Type 0
IsControl control places resting = (place : ℕ) → contains places place ≡ true → control place ≡ contains resting place

-- the writes are those of bits, and these drive the same outputs
pub record AreWritesOf (writes : List Write) (bits : Bits) : Type 0 where
  pub same : Bits
  pub are : writes ≡ writes_of same
  pub drive : (output : ℕ) → is_driven same output ≡ is_driven bits output

-- resumed where control rests, the walk ends where the bit says so, has writes that drive what the bits
-- drive, leaves control at the places that the bits name, and meets no instance
pub record ResumesAs (body : Walk) (l : Layout) (mirror : Mirror) (control : Control) (r : Residual) : Type 0 where
  pub inside : mirror.inside control ≡ true
  pub ended : (ctx : Context) → body.ended ctx r ≡ Known (truth_of (mirror.ended control))
  pub writes : (ctx : Context) (g : Bool) → AreWritesOf (body.resume ctx r (Known (truth_of g))) (mirror.resume control g)
  pub rests : (ctx : Context) (place : ℕ) → contains (places_at (body.after ctx r)) place ≡ is_driven (mirror.move control) place
  pub meets : l.met_on_resume r ≡ []

-- where control isn't inside, no bit is true
pub record IsStill (mirror : Mirror) (control : Control) : Type 0 where
  pub inside : mirror.inside control ≡ false
  pub ended : mirror.ended control ≡ false
  pub undriven : (act : Bool) (output : ℕ) → is_driven (mirror.resume control act) output ≡ false
  pub unmoved : (place : ℕ) → is_driven (mirror.move control) place ≡ false
