-- What the queue holds, in its policy's own terms.
use Rattle.bounded.specs.Items.{items}
use Rattle.first_come.specs.Order.{Order}
use Rattle.first_come.specs.declared.FirstCome.{FirstCome}

abbrev pub order_of : FirstCome → Order
order_of q = record { size = q.size.count; order = items q.order }
