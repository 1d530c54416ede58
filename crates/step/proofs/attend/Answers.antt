use Rattle.std.proofs.Common.{refl, sym}
use Rattle.step.specs.FirstLaws.{misshapen, off, on}
use Rattle.step.proofs.attend.Goals as goal

pub returns-in_default : goal.returns-in_default
returns-in_default c = misshapen _ _ _ c.requires _ refl c.in_default.ensures

pub returns-then-wants_device-device : goal.returns-then-wants_device-device
returns-then-wants_device-device c =
    off _ _ _ c.requires c.in-Some.o c.in-Some.ensures.0 _ (sym c.in-Some.ensures.1) refl _ c.device.ensures
    (rw c.wants_device.ensures at c.if-wants_device-device.true)

pub serve-requires : goal.serve-requires
serve-requires c = (
  on _ _ _ c.requires c.in-Some.o c.in-Some.ensures.0 _ (sym c.in-Some.ensures.1) refl _ c.device.ensures
      (rw c.wants_device.ensures at c.if-wants_device-device.false),
  c.in-Some.ensures.0,
)
