-- CSeal and CUnseal: one check a line, in the order of its page of 004, and the effect last.
use Rattle.std.specs.Prelude.{ℕ, ◌+◌, ◌^◌, eqb, ltb}
use Rattle.manual.specs.declared.Cap.{Cap}
use Rattle.manual.specs.Cap as Cap
use Rattle.manual.specs.Narrow.{sealed_by, unsealed_by}
use Rattle.manual.specs.declared.Named.{Named}
use Rattle.manual.specs.declared.Effect.TheVariants.{Capability}
use Rattle.manual.specs.Checks.{Checked, ok, that, opened, tagged, unsealed, granted, LENGTH, SEAL, TYPE, ◌>>◌}

-- CSeal: Seal a Capability. Both Length tests name ct (ruling A17).
unfoldable pub c_seal : Cap → ℕ → Named → Named → Checked
c_seal pcc cd cs ct = do
  opened pcc cd
  opened pcc cs.number
  opened pcc ct.number
  tagged cs
  tagged ct
  unsealed cs
  unsealed ct
  granted Cap.SEAL ct
  that (ltb ct.cap.offset.0 ct.cap.length) LENGTH ct.number
  that (ltb (ct.cap.base.0 + ct.cap.offset.0) (2 ^ 24)) LENGTH ct.number
  ok (Capability cd (sealed_by cs.cap ct.cap))

-- CUnseal: Unseal a sealed capability. The sum is exact; Type names ct (ruling A9).
unfoldable pub c_unseal : Cap → ℕ → Named → Named → Checked
c_unseal pcc cd cs ct = do
  opened pcc cd
  opened pcc cs.number
  opened pcc ct.number
  tagged cs
  tagged ct
  that cs.cap.sealed SEAL cs.number
  unsealed ct
  that (eqb (ct.cap.base.0 + ct.cap.offset.0) cs.cap.otype) TYPE ct.number
  granted Cap.SEAL ct
  that (ltb ct.cap.offset.0 ct.cap.length) LENGTH ct.number
  ok (Capability cd (unsealed_by cs.cap ct.cap))
