use Rattle.std.proofs.Common.{◌≡◌, sym, subst}
use Rattle.qz_control.proofs.Choosing.{if_ok}
use Rattle.qz_system.specs.declared.parts.SystemParts.{SystemParts}
use Rattle.qz_system.specs.declared.system.System.{System}
use Rattle.qz_single.specs.Made.{IsSystemOf}
use Rattle.qz_single.proofs.SoundReady.{body_ready}
use Rattle.qz_single.proofs.system.system_of.Goals as goal

pub compile-requires : goal.compile-requires
compile-requires c = body_ready c.args.w.now.module c.requires.well_formed c.requires.unbound

pub returns : goal.returns
returns c =
    let made : IsSystemOf c.args.w.now c.in_ok-parts.parts =
    record { compiled = c.in_ok-compiled.compiled; is_compiled = c.in_ok-compiled.ensures; is_made = c.in_ok-parts.ensures } in
    if_ok c.system_with.result (λ (s : System). s.parts ≡ c.in_ok-parts.parts) (λ (s : System). IsSystemOf c.args.w.now s.parts) c.system_with.ensures
    (λ s is. subst (λ (p : SystemParts). IsSystemOf c.args.w.now p) (sym is) made)
