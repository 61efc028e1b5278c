-- `image::types_bytes` meets its contract: the codes of the list, over zeros.
use Rattle.std.proofs.Common.{◌≡◌, ℕ, min, List, [], ◌++◌, length, take, drop, replicate, sym, rules, arith}
use Rattle.std.proofs.lemmas.List.{length-take, take_min}
use Rattle.slot.proofs.Puts.{bytes_put}
use Rattle.slot.specs.Image.{put_bytes}
use Rattle.slot.proofs.image.types_bytes.Goals as goal

over_zeros : (n many : ℕ) (xs : List ℕ) → length xs ≡ 16 → many ≡ min n 16 → take many xs ++ drop many (replicate 16 0) ≡ put_bytes 16 (take n xs) []
over_zeros n many xs h e =
    let fits : many ≡ min n (length xs) = omega arith in
    rw (fits, take_min, ← length-take n xs) (sym (bytes_put 16 (take n xs) [] (simp length-take (omega arith))))

pub returns : goal.returns
returns c =
    let unit = c.args.unit in
    rw c.copy_from_slice.ensures.after (over_zeros unit.count c.min-many.result unit.types (search rules) (omega arith))
