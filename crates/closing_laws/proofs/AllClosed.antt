-- The system of a whole program of one module closes it.
use Rattle.qz_closing.proofs.Permitted.{shapes_permit}
use Rattle.closing_laws.specs.Closing.{SystemsClose}
use Rattle.closing_laws.proofs.RoundsSame.{rounds_alike, rounds_idle}
use Rattle.closing_laws.proofs.NextsSame.{next_encodes}

pub systems_close : SystemsClose
systems_close w parts well texts right sys = record {
  parts_are = sys.is_made.named;
  valuations = shapes_permit w parts well texts record { named = sys.is_made.named; shape = sys.is_made.shape };
  agrees = λ at v permitted e. record {
    rounds = rounds_alike w parts sys well texts at permitted v e;
    idle = rounds_idle w parts sys well texts at permitted v e;
    nexts = λ env inputs knows delayed typed alike told next is.
        next_encodes w parts sys right well texts at permitted v e env inputs knows delayed typed alike told next is;
  };
}
