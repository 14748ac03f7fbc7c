use Rattle.std.proofs.Common.{◌<◌, ◌≤◌, [], ◌∷◌, ◌++◌, length, take, ap, ◌∙◌, arith}
use Rattle.notation.proofs.Lines.{front_grows, stays_whole, front_stays, is_cut}
use Rattle.notation.proofs.text.Line.put.Goals as goal

pub returns-in_ok-push : goal.returns-in_ok-push
returns-in_ok-push c w h =
    let room : length (take 200 w) < 200 = omega (arith, ap length h.front, c.args.self.now.bytes.ok.0) in
    record {
      front = c.in_ok-push.ensures.items ∙ ap (λ v. v ++ (c.args.byte ∷ [])) h.front ∙ front_grows w c.args.byte room;
      longer = h.longer ∙ stays_whole w c.args.byte room;
    }

pub returns-else-len-lt-LIMIT : goal.returns-else-len-lt-LIMIT
returns-else-len-lt-LIMIT c w h =
    let full : 200 ≤ length (take 200 w) = omega (arith, ap length h.front, c.args.self.now.bytes.ok.0) in
    record { front = h.front ∙ front_stays w c.args.byte full; longer = is_cut w c.args.byte full }
