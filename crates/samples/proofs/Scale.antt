-- The scale of a sample: a number of 16 bits is at most 32767 and at least -32768.
use native.Mathlib.Omega.{arith}
use lib.Dec.{le→leb}
use lib.IntN.{ℤ, pos, negsuc}
use lib.Signed.{◌≤ℤ◌, le_z_yes}
use mir.Syntax.{w16}
use mir.Val.{SFits}

pub scale-most : {v : ℤ} → SFits w16 v → v ≤ℤ pos 32767
scale-most {v = pos n} f = le_z_yes (le→leb n 32767 (omega (arith, f.sfits)))
scale-most {v = negsuc n} f = le_z_yes tt

pub scale_least : {v : ℤ} → SFits w16 v → negsuc 32767 ≤ℤ v
scale_least {v = pos n} f = le_z_yes tt
scale_least {v = negsuc n} f = le_z_yes (le→leb n 32767 (omega (arith, f.sfits)))
