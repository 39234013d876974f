use Rattle.std.proofs.Common.{arith, ◌≡◌, ◌∙◌, ◌/◌, ◌%◌, ℕ, ap₂, [], ◌∷◌}
use Rattle.pciv_bytes.specs.LittleEndian.{le}
use Rattle.pciv_bytes.proofs.LittleEndianLaws.{le-bytes, length-le}
use Rattle.pciv_bytes.proofs.WriteLaws.{put_mid-sets}
use Rattle.pciv_bytes.proofs.little_endian.put16.Goals as goal

-- two bytes hold as much of x as fits
low : (x : ℕ) → le 2 (x % 65536) ≡ le 2 x
unfolding le
low x =
    let first : x % 65536 % 256 ≡ x % 256 = omega arith in
    let second : x % 65536 / 256 % 256 ≡ x / 256 % 256 = omega arith in
    ap₂ (λ (a b : ℕ). a ∷ (b ∷ [])) first second

pub returns : goal.returns
returns c =
    rw (c.copy_from_slice.ensures.after ∙ c.to_le_bytes.ensures ∙ le-bytes 2 (c.args.x % 65536) ∙ low c.args.x)
    (put_mid-sets c.args.at _ c.args.out.now (le 2 c.args.x) (length-le 2 c.args.x ∙ omega arith) (omega arith))
