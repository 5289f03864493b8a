-- What the walk over a statement of the first language gives, by the statement's bits.
use Rattle.std.specs.Prelude.{ℕ, ◌≡◌, Bool, true, false, IsTrue, List, [], map, Option, Some, None}
use Rattle.qz_values.specs.declared.Know.TheVariants.{Known}
use Rattle.qz_values.specs.Values.{yes, truth_of}
use Rattle.qz_syntax.specs.declared.places.Mark.{Mark}
use Rattle.qz_syntax.specs.declared.places.Residual.{Residual}
use Rattle.qz_meaning.specs.Instances.{formal_instance}
use Rattle.qz_syntax.specs.Numbers.{contains}
use Rattle.qz_meaning.specs.Scenes.{Context}
use Rattle.qz_meaning.specs.Accounts.{Write}
use Rattle.qz_meaning.specs.Layouts.{Layout}
use Rattle.qz_meaning.specs.Residing.{Walk}
use Rattle.qz_meaning.specs.Valuations.{resting_places}
use Rattle.qz_first.specs.Mirror.{Bits, Mirror, is_driven}

-- an output's number with a bit, as the write of `true` to the output under that guard
abbrev pub write_of : ℕ × Bool → Write
write_of bit = record { target = formal_instance bit.0; delayed = false; guard = Known (truth_of bit.1); value = Known yes }

abbrev pub writes_of : Bits → List Write
writes_of bits = map write_of bits

-- the places where control rests, and none where it rests nowhere
abbrev pub places_at : Option Residual → List ℕ
places_at None = []
places_at (Some r) = resting_places r

-- control can rest so, where it rests
abbrev pub CanRest : Layout → Option Residual → Type 0
CanRest l None = Unit {0}
CanRest l (Some r) = IsTrue (l.fits r)

-- started, the walk ends where the bit says so, has the bits' writes, leaves control at the places that
-- the bits name, and meets no instance
pub record StartsAs (body : Walk) (l : Layout) (mirror : Mirror) : Type 0 where
  pub ends : (ctx : Context) (m : Mark) → body.ends ctx m ≡ Known (truth_of mirror.at_once)
  pub writes : (ctx : Context) (g : Bool) (m : Mark) → body.start ctx (Known (truth_of g)) m ≡ writes_of (mirror.start g)
  pub rests : (ctx : Context) (m : Mark) (place : ℕ) → contains (places_at (body.rest ctx m)) place ≡ is_driven (mirror.enter true) place
  pub meets : (m : Mark) → l.met_on_start m ≡ []
