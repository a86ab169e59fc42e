use Rattle.std.proofs.Common.{◌≡◌, ◌++◌, ◌+◌, ◌*◌, ◌∙◌, [], ◌∷◌, take, ap, sym, arith}
use Rattle.std.proofs.Math.Nat.{add-mod-mod}
use Rattle.std.proofs.lemmas.List.{take_more}
use Rattle.std.proofs.lemmas.List.Sums.{fold-append}
use Rattle.std.proofs.lemmas.Slice.Zip.{all_zipped_more}
use Rattle.printed.specs.Checksum.{with_number, prime}
use Rattle.printed.proofs.checksum.checksum.Goals as goal

pub loop-place-preserved : goal.loop-place-preserved
loop-place-preserved g c =
    let so_far = c.loop-place.invariant.1 in
    let number = c.into-number.result in
    let places = c.args.places.now in
    let i = c.loop-place.place-index in
    let one_more : take (i + 1) places ≡ take i places ++ c.place-item.result ∷ [] =
    take_more places i c.place-item.result c.loop-place-test.true
    ∙ ap (λ place. take i places ++ place ∷ []) (sym c.place-item.is) in (
      omega arith,
      (
        so_far.0 ++ number ∷ [],
        rw one_more (all_zipped_more g.T.Into.converts _ _ _ _ so_far.1 c.into-number.ensures),
        add-mod-mod (c.loop-place.sum * 257) number prime
            ∙ ap (λ sum. with_number sum number) so_far.2
            ∙ sym (fold-append with_number 0 so_far.0 (number ∷ [])),
      ),
    )
