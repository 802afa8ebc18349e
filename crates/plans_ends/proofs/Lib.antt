mod OwnSnapshots
